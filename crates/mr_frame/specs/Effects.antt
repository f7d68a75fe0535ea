-- What the steps of a frame come to over a memory and a tally: the names that contracts cite.
use Rattle.std.specs.Prelude.{ℕ, false, if◌then◌else◌, List, [], ◌∷◌, Option, None, Some}
use Rattle.mr_ast.specs.declared.types.Num.{Num}
use Rattle.mr_ast.specs.declared.types.Tag.{Tag}
use Rattle.mr_ast.specs.declared.types.Ty.{Ty}
use Rattle.mr_ast.specs.declared.expr.Place.{Place}
use Rattle.mr_ast.specs.declared.expr.Value.{Value}
use Rattle.mr_ast.specs.declared.program.BlockName.{BlockName}
use Rattle.mr_ast.specs.declared.program.Function.{Function}
use Rattle.mr_ast.specs.declared.program.Stmt.{Stmt}
use Rattle.mr_ast.specs.declared.program.Stmt.TheVariants as stmt
use Rattle.mr_base.specs.declared.byte.Kind.TheVariants.{Stack as OnStack}
use Rattle.mr_base.specs.declared.byte.Pointer.{Pointer}
use Rattle.mr_layout.specs.Sizes.{align_of, size_of}
use Rattle.mr_mem.specs.Memory.{Memory}
use Rattle.mr_value.specs.declared.val.Val.{Val, out-Val}
use Rattle.mr_value.specs.Encode.{blank, tag_bytes}
use Rattle.mr_value.specs.Shape.{has_shape}
use Rattle.mr_typing.specs.Types.{type_of_place}
use Rattle.mr_sched.specs.declared.schedule.Ask.{Ask}
use Rattle.mr_base.specs.Script.{Broken, Outcome, Refused, Went, on, run, ◌>>=◌}
use Rattle.mr_eval.specs.Evaluation.{Surround}
use Rattle.mr_eval.specs.Evaluated.{placed, read_typed, valued}
use Rattle.mr_eval.specs.MemoryQueries.{Allocate, Free, MemoryScript, memory_answer, reading_part}
use Rattle.mr_eval.specs.Moves.{behind}
use Rattle.mr_eval.specs.Operators.{pointer_in}
use Rattle.mr_eval.specs.Reads.{Seen, reading}
use Rattle.mr_eval.specs.Stores.{stored_typed, storing}
use Rattle.mr_eval.specs.World.{World}
use Rattle.mr_plan.specs.Machine.{Plan}
use Rattle.mr_frame.specs.declared.slot.Slot.{Slot}
use Rattle.mr_frame.specs.Calls.{enter}
use Rattle.mr_frame.specs.Changes.{store, tags_in}
use Rattle.mr_frame.specs.Frames.{Frame, Look, Onward, Stack}
use Rattle.mr_frame.specs.Operations.{DueDo, Operands, finish, operands}
use Rattle.mr_frame.specs.Steps.{frame_plan}
use Rattle.mr_frame.specs.Switches.{switched}

-- the plan of the next step, or why it stops before it has one
unfoldable pub planned : Memory → Look → ℕ → Stack → Seen → Outcome (Plan (MemoryScript Onward)) Seen
planned m look thread s seen = run (reading m) (frame_plan look thread s) seen

-- what a plan asks for; nothing where there is none
abbrev pub asks_of : {S : Type 0} → Outcome (Plan (MemoryScript Onward)) S → List Ask
asks_of (Went plan s) = plan.asks
asks_of (Refused r) = []
asks_of Broken = []

-- what the next step asks for
unfoldable pub asked : Memory → Look → ℕ → Stack → Seen → List Ask
asked m look thread s seen = asks_of (planned m look thread s seen)

-- how the thread goes on behind the next step with these picks
unfoldable pub acted : Look → ℕ → Stack → List ℕ → World → Outcome Onward World
acted look thread s picks w = run memory_answer (reading_part (frame_plan look thread s) >>= λ plan. plan.go picks) w

-- the frame of a function at its start
unfoldable pub entered : ℕ → Option Function → List Val → List ℕ → World → Outcome Frame World
entered number fn vs picks w = run memory_answer (enter number fn vs picks) w

-- what an intrinsic is given
unfoldable pub argued : Memory → Look → DueDo → Seen → Outcome Operands Seen
argued m look d seen = run (reading m) (operands look d) seen

-- the stack behind an intrinsic with this value
unfoldable pub finished : Stack → DueDo → Operands → Option Val → World → Outcome Stack World
finished s d o v w = run memory_answer (finish s d o v) w

-- the store of a value of a type, whose shape it must have, over memory and tally
unfoldable pub stored_in : Ty → Pointer → Val → World → Outcome (Unit {0}) World
stored_in t p v w = run memory_answer (store t p v) w

-- storage that is freed, where there is some
abbrev pub unstored : Option Pointer → ℕ → ℕ → World → Outcome (Unit {0}) World
unstored None size align w = Went tt w
unstored (Some p) size align w = memory_answer (Free p OnStack size align) w

-- the same, and new storage at an address
unfoldable pub renewed : Slot → ℕ → World → Outcome Pointer World
renewed slot addr w =
    on (unstored slot.storage slot.size slot.align w)
    (λ u v. memory_answer (Allocate OnStack slot.size slot.align addr) v)

-- ---- statements

abbrev pub Left : Type 0
Left = Outcome Memory Seen

-- the store of a value of a type, whose shape it must have
abbrev pub shaped_store : Memory → Ty → Pointer → Val → Seen → Left
shaped_store m t p v seen = if has_shape t v then stored_typed m t p v seen else Broken

-- the same at a place of a type
abbrev pub stored_at : Memory → Option Ty → Pointer → Val → Seen → Left
stored_at m None p v seen = Broken
stored_at m (Some t) p v seen = shaped_store m t p v seen

unfoldable pub assigned : Memory → Surround → Place → Value → Seen → Left
assigned m s place value seen =
    on (placed m s place seen)
    (λ p seen'. on (valued m s value seen') (λ v last. stored_at m (type_of_place s.locals place) p v last))

unfoldable pub mentioned : Memory → Surround → Place → Seen → Left
mentioned m s place seen = on (placed m s place seen) (λ p last. Went m last)

-- the load and the store of a place of a type
abbrev pub validated_at : Memory → Option Ty → Pointer → Seen → Left
validated_at m None p seen = Broken
validated_at m (Some t) p seen = on (read_typed m t p seen) (λ v last. shaped_store m t p v last)

unfoldable pub validated : Memory → Surround → Place → Seen → Left
validated m s place seen = on (placed m s place seen) (λ p last. validated_at m (type_of_place s.locals place) p last)

-- the bytes of a place of a type made uninitialised
abbrev pub deinited_at : Memory → Option Ty → Pointer → Seen → Left
deinited_at m None p seen = Broken
deinited_at m (Some t) p seen = storing m false p (blank (size_of t)) (align_of t) seen

unfoldable pub deinited : Memory → Surround → Place → Seen → Left
deinited m s place seen = on (placed m s place seen) (λ p last. deinited_at m (type_of_place s.locals place) p last)

-- the stores of tags
abbrev pub tagged : Memory → Pointer → List Tag → Seen → Left
tagged m p [] seen = Went m seen
tagged m p (tag ∷ tags) seen =
    on (storing m false (behind p tag.at) (tag_bytes tag) 1 seen) (λ new last. tagged new p tags last)

abbrev pub tagged_at : Memory → Option (List Tag) → Pointer → Seen → Left
tagged_at m None p seen = Broken
tagged_at m (Some tags) p seen = tagged m p tags seen

unfoldable pub discriminated : Memory → Surround → Place → Num → Seen → Left
discriminated m s place number seen =
    on (placed m s place seen) (λ p last. tagged_at m (tags_in (type_of_place s.locals place) number) p last)

-- a statement other than `live` and `dead`, which do more than change memory
abbrev pub changed : Memory → Surround → Stmt → Seen → Left
changed m s (stmt.Live x) seen = Broken
changed m s (stmt.Dead x) seen = Broken
changed m s (stmt.Assign place value) seen = assigned m s place value seen
changed m s (stmt.Mention place) seen = mentioned m s place seen
changed m s (stmt.Disc place number) seen = discriminated m s place number seen
changed m s (stmt.Deinit place) seen = deinited m s place seen
changed m s (stmt.Validate place) seen = validated m s place seen

-- ---- terminators

-- where a switch goes on
unfoldable pub chosen : Memory → Surround → Value → List (Num × BlockName) → BlockName → Seen → Outcome ℕ Seen
chosen m s value cases other seen = run (reading m) (switched s value cases other) seen

-- a pointer, which must be there
abbrev pub there_or_broken : {A : Type 0} → Option A → Seen → Outcome A Seen
there_or_broken None seen = Broken
there_or_broken (Some x) seen = Went x seen

-- the pointer that an expression gives
unfoldable pub pointed : Memory → Surround → Value → Seen → Outcome Pointer Seen
pointed m s v seen = on (valued m s v seen) (λ x last. there_or_broken (pointer_in (out-Val x)) last)
