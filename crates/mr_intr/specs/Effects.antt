-- What the code of an intrinsic needs, and what it answers.
use Rattle.std.specs.Prelude.{◌≡◌, ℕ, ◌<◌, ◌≤◌, ◌^◌, ◌++◌, true, false, List, [], ◌∷◌, Option, None, Some, Result, Ok}
use Rattle.std.specs.Prelude.{Err}
use Rattle.std.specs.FinMap as fin
use Rattle.mr_ast.specs.declared.program.Intrinsic.{Intrinsic}
use Rattle.mr_ast.specs.declared.program.Intrinsic.TheVariants as intrinsic
use Rattle.mr_ast.specs.declared.types.Ty.{Ty}
use Rattle.mr_base.specs.declared.byte.AllocId.{AllocId}
use Rattle.mr_mem.specs.Memory.{Memory}
use Rattle.mr_mem.specs.declared.fault.Fault.{Fault}
use Rattle.mr_mem.specs.declared.fault.Fault.TheVariants as fault
use Rattle.mr_value.specs.declared.val.Val.{Val}
use Rattle.mr_value.specs.Shape.{has_shape}
use Rattle.mr_typing.specs.Intrinsics.{fits_intrinsic}
use Rattle.mr_base.specs.Script.{Outcome, Refused, Went, run, ◌>>=◌}
use Rattle.mr_base.specs.Stops.{stop_with}
use Rattle.mr_eval.specs.World.{tally_of}
use Rattle.mr_eval.specs.declared.scene.Scene.{Scene}
use Rattle.mr_eval.specs.Shapes.{HaveShapes}
use Rattle.mr_sync.specs.Tables.{Tables}
use Rattle.mr_plan.specs.Legal.{needs_fault}
use Rattle.mr_plan.specs.Machine.{needs_of}
use Rattle.mr_plan.specs.Notes.{Notes, event_of}
use Rattle.mr_plan.specs.Queries.{Shared, answer}
use Rattle.mr_intr.specs.Operations.{operation}
use Rattle.mr_intr.specs.declared.effect.Effect.{Effect}

-- ---- where an intrinsic begins

-- a memory, beside the tables of threads and locks
abbrev pub shared_of : Memory → Tables → Shared
shared_of m x = record { memory = m; statuses = x.statuses; holders = x.holders }

-- the memory of a scene, beside the tables
abbrev pub shared_in : Scene → Tables → Shared
shared_in s x = shared_of s.memory x

-- what a scene has noted, and nothing else
abbrev pub notes_in : Scene → Notes
notes_in s = record {
  tally = tally_of s;
  stopped = false;
  events = [];
  ended = false;
  woken = [];
  printed = [];
}

-- the same, as a step begins with it
abbrev pub begun : Scene → Tables → Shared × Notes
begun s x = (shared_in s x, notes_in s)

-- ---- what an intrinsic comes to

-- WHAT AN INTRINSIC COMES TO with these arguments, the types of them and of the place for its result, and these picks
unfoldable pub operated : Intrinsic → List Val → List Ty → Option Ty → List ℕ → Shared × Notes
    → Outcome (Option Val) (Shared × Notes)
operated op args types place picks w = run answer (operation op args types place >>= λ plan. plan.go picks) w

-- ---- what the code needs

-- an intrinsic of this crate
abbrev pub IsOperation : Intrinsic → Type 0
IsOperation intrinsic.Spawn = ⊥
IsOperation intrinsic.Payload = ⊥
IsOperation _ = Unit {0}

-- The types fit the intrinsic, and the arguments have the shapes of theirs.
pub record Fits (op : Intrinsic) (args : List Val) (types : List Ty) (place : Option Ty) : Type 0 where
  pub fitting : fits_intrinsic op types place ≡ true
  pub shapes : HaveShapes types args

-- The arguments fit the intrinsic, with some types and some place.
pub record CanTake (op : Intrinsic) (args : List Val) : Type 0 where
  pub types : List Ty
  pub place : Option Ty
  pub fits : Fits op args types place

-- the thread has no allocation with this count or a greater one
abbrev pub IsUncounted : Memory → ℕ → ℕ → Type 0
IsUncounted m thread count = (id : AllocId) → id.thread ≡ thread → count ≤ id.count → fin.get m id ≡ None

-- The picks break no rule.
abbrev pub AreLawful : Intrinsic → List Val → List Ty → Option Ty → List ℕ → Scene → Tables → Type 0
AreLawful op args types place picks s x =
    needs_fault
    (shared_in s x) s.thread s.count (needs_of (run answer (operation op args types place) (begun s x))) picks
    ≡ None

-- The thread has made fewer than 2^63 allocations, none of them with its count or a greater one.
pub record CanCount (s : Scene) : Type 0 where
  pub uncounted : IsUncounted s.memory s.thread s.count
  pub few : s.count < 2 ^ 63

-- ---- what the code answers

-- one or none
abbrev pub listed : Option ℕ → List ℕ
listed None = []
listed (Some u) = u ∷ []

-- a print appends its text to the output, and nothing else does
abbrev pub Prints : Intrinsic → List (List ℕ) → List ℕ → List ℕ → Type 0
Prints intrinsic.Print printed old new = (text : List ℕ) × (printed ≡ text ∷ []) × (new ≡ old ++ text)
Prints _ printed old new = (printed ≡ []) × (new ≡ old)

-- The run goes on with what the code gave and left: its notes tell what was done to memory and to a lock or a thread,
-- whom it woke, and what it printed.
pub record IsDone (op : Intrinsic) (e : Effect) (o : Outcome (Option Val) (Shared × Notes)) (s : Scene) (x : Tables)
    (old new : List ℕ) : Type 0 where
  pub notes : Notes
  pub went : o ≡ Went e.value (shared_in s x, notes)
  pub tally : notes.tally ≡ tally_of s
  pub event : event_of notes.events ≡ e.event
  pub going : notes.ended ≡ false
  pub woken : notes.woken ≡ listed e.woken
  pub printed : Prints op notes.printed old new

-- What the code returned and left is what the run comes to, unless memory ran out. A stop speaks of the bytes that were
-- refused last, where its reason speaks of bytes; it appends nothing to the output.
abbrev pub Does : Intrinsic → Result Effect Fault → Outcome (Option Val) (Shared × Notes) → Scene → Tables → List ℕ
    → List ℕ → Type 0
Does op (Ok e) o s x old new = IsDone op e o s x old new
Does op (Err (fault.Undefined r)) o s x old new = (o ≡ Refused (stop_with s.notes.refused r)) × (new ≡ old)
Does op (Err fault.Memory) o s x old new = Unit {0}

-- a value of the shape of the place's type exactly where there is a place
abbrev pub FitsPlace : Option Ty → Option Val → Type 0
FitsPlace None v = v ≡ None
FitsPlace (Some t) v = (x : Val) × (v ≡ Some x) × (has_shape t x ≡ true)

-- what code does that changes memory alone, whatever the tables and the output are
abbrev pub ChangesMemory : Intrinsic → Result Effect Fault → List Val → List Ty → Option Ty → List ℕ → Scene → Scene
    → Type 0
ChangesMemory op result args types place picks old new =
    (x : Tables) (out : List ℕ) → Does op result (operated op args types place picks (begun old x)) new x out out

-- what code does that changes the tables alone, whatever the memory, the output and the types are
abbrev pub ChangesTables : Intrinsic → Result Effect Fault → List Val → List ℕ → ℕ → Tables → Tables → Type 0
ChangesTables op result args picks thread old new =
    (s : Scene) (types : List Ty) (place : Option Ty) (out : List ℕ) → s.thread ≡ thread
    → Does op result (operated op args types place picks (begun s old)) s new out out
