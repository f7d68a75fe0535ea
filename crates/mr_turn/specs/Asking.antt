-- What the next step of a thread asks for, and how the code tells it.
use Rattle.std.specs.Prelude.{◌≡◌, ℕ, Bool, true, false, List, ◌++◌, Option, None, Some, Result, Ok, Err}
use Rattle.std.specs.Option.{option_map}
use Rattle.mr_ast.specs.declared.program.Intrinsic.{Intrinsic}
use Rattle.mr_ast.specs.declared.program.Intrinsic.TheVariants as intrinsic
use Rattle.mr_mem.specs.Memory.{Memory}
use Rattle.mr_sched.specs.declared.schedule.Ask.{Ask}
use Rattle.mr_sync.specs.Tables.{Tables}
use Rattle.mr_frame.specs.PlanLegal.{Fault, creation_fault}
use Rattle.mr_frame.specs.PlanMachine.{Needs, needs_of}
use Rattle.mr_frame.specs.PlanNotes.{Notes, start_notes}
use Rattle.mr_frame.specs.PlanQueries.{Shared}
use Rattle.mr_frame.specs.Operations.{DueDo, OperandsFit, next_do}
use Rattle.mr_frame.specs.declared.dos.DoCall.{DoCall}
use Rattle.mr_frame.specs.declared.look.Look.{Look as KeptLook}
use Rattle.mr_frame.specs.declared.stack.Stack.{Stack as KeptStack}
use Rattle.mr_frame.specs.Doing.{operands_of}
use Rattle.mr_frame.specs.Kept.{IsReady, look_of, stack_of}
use Rattle.mr_intr.specs.Effects.{shared_of}
use Rattle.mr_turn.specs.Doing.{SpawnGiven, StandsFor, do_planned}
use Rattle.mr_turn.specs.Turning.{own_of, planned}

-- The intrinsic is due and was given this, which fits it.
pub record IsAsked (look : KeptLook) (stack : KeptStack) (call : DoCall) (d : DueDo) : Type 0 where
  pub ready : IsReady look
  pub due : next_do (look_of look) (stack_of stack) ≡ Some d
  pub operands : OperandsFit d.op (operands_of call)

-- It is the start of a thread, and its callee is the function of this number.
pub record AsksFunction (look : KeptLook) (stack : KeptStack) (call : DoCall) (d : DueDo) (number : ℕ) : Type 0 where
  pub asked : IsAsked look stack call d
  pub is : d.op ≡ intrinsic.Spawn
  pub given_to : SpawnGiven (operands_of call)
  pub at : StandsFor look given_to.callee number

-- whether an intrinsic may ask for a pick or create something, by what it is given
abbrev pub may_ask : Intrinsic → Bool
may_ask intrinsic.Allocate = true
may_ask intrinsic.Release = true
may_ask intrinsic.CreateLock = true
may_ask intrinsic.Spawn = true
may_ask _ = false

-- what the next step of a thread needs
abbrev pub step_needs : KeptLook → KeptStack → Memory → Tables → ℕ → ℕ → Needs
step_needs look stack m x thread count =
    needs_of (planned (look_of look) (own_of thread stack) (shared_of m x, start_notes thread count))

-- what an intrinsic needs that is due and was given this
abbrev pub do_needs : KeptLook → KeptStack → DoCall → DueDo → ℕ → Shared × Notes → Needs
do_needs look stack call d thread w =
    needs_of (do_planned (look_of look) (own_of thread stack) d (operands_of call) w)

-- the fault with this number and no identity, if there is one
abbrev pub bare_fault : Option ℕ → Option Fault
bare_fault None = None
bare_fault (Some code) = Some (record { code = code; earlier = None })

-- The asks were appended, and the code is that of the limit that is reached; or nothing changed.
abbrev pub AsksAnswer : {E : Type 0} → Shared → Needs → List Ask → List Ask → Result (Option ℕ) E → Type 0
AsksAnswer w n old new (Ok code) = (new ≡ old ++ n.asks)
    × (code ≡ option_map (λ f. f.code) (creation_fault w n.creates))
AsksAnswer w n old new (Err e) = new ≡ old

-- what a step asks for is told of each number of allocations
abbrev pub AsksStep : {E : Type 0} → KeptLook → KeptStack → Memory → Tables → ℕ → List Ask → List Ask
    → Result (Option ℕ) E → Type 0
AsksStep look stack m x thread old new told =
    (count : ℕ) → AsksAnswer (shared_of m x) (step_needs look stack m x thread count) old new told

-- and so is what an intrinsic asks for that is due and was given this, over each memory and whatever was noted
abbrev pub AsksDo : {E : Type 0} → KeptLook → KeptStack → Tables → DoCall → ℕ → List Ask → List Ask
    → Result (Option ℕ) E → Type 0
AsksDo look stack x call thread old new told =
    (d : DueDo) → next_do (look_of look) (stack_of stack) ≡ Some d → (m : Memory) (n : Notes) → n.tally.thread ≡ thread
    → AsksAnswer (shared_of m x) (do_needs look stack call d thread (shared_of m x, n)) old new told
