-- The step of a thread: its frame's next statement or terminator, or an intrinsic. (MiniRust, lang: the machine.)
use Rattle.std.specs.Prelude.{ℕ, List, [], ◌∷◌, Option, None, Some, slice_get, if◌then◌else◌}
use Rattle.mr_base.specs.Stops.{plainly}
use Rattle.mr_ast.specs.declared.program.Function.{Function}
use Rattle.mr_ast.specs.declared.program.Intrinsic.{Intrinsic}
use Rattle.mr_ast.specs.declared.program.Intrinsic.TheVariants as intrinsic
use Rattle.mr_ast.specs.declared.types.Ty.{Ty}
use Rattle.mr_ast.specs.declared.types.Ty.TheVariants as ty
use Rattle.mr_base.specs.declared.byte.Pointer.{Pointer}
use Rattle.mr_base.specs.declared.reason.Reason.TheVariants.{NoPayload, NotAFunction, SignatureMismatch}
use Rattle.mr_value.specs.declared.val.Val.{Val}
use Rattle.mr_value.specs.declared.val.Val.TheVariants as val
use Rattle.mr_base.specs.Script.{Done, Undefined, IllFormed, Ask, ◌>>=◌}
use Rattle.mr_frame.specs.EvalMemoryQueries.{MemoryScript, reading_part}
use Rattle.mr_frame.specs.EvalReads.{ReadScript}
use Rattle.mr_frame.specs.PlanMachine as machine
use Rattle.mr_frame.specs.PlanMachine.{CreatesThread, Flow, Goes, Language, Plan}
use Rattle.mr_frame.specs.PlanQueries.{Finish, Start, StepScript, memory_part}
use Rattle.mr_frame.specs.Calls.{callee_of, enter, kept_types, same_types, storage_asks}
use Rattle.mr_frame.specs.Frames.{Aborts, EndsThread, Exits, Frame, GoesOn, Look, Onward, Stack}
use Rattle.mr_frame.specs.Operations.{DueDo, Operands, finish, next_do, operands}
use Rattle.mr_frame.specs.Steps.{frame_plan}
use Rattle.mr_intr.specs.Operations.{Operation, instant, operation, pointer}

-- a thread's own state: its number, its frames and its payloads
pub record Own : Type 0 where
  pub thread : ℕ
  pub stack : Stack

-- what a step comes to, and a plan of it
abbrev pub Turn : Type 0
Turn = Flow Own

-- what finds out what a step needs, and then takes it with the picks
abbrev pub TurnPlan : Type 0
TurnPlan = StepScript (Plan (StepScript Turn))

-- the thread with another stack
abbrev pub with_stack : Own → Stack → Own
with_stack own s = record own { stack = s }

-- what evaluation reads, in a step
abbrev pub reads : {A : Type 0} → ReadScript A → StepScript A
reads script = memory_part (reading_part script)

-- a plan goes on behind what it does
abbrev pub planned : {A : Type 0} → Plan (StepScript A) → (A → StepScript Turn) → Plan (StepScript Turn)
planned plan f = record { creates = plan.creates; asks = plan.asks; go = λ picks. plan.go picks >>= f }

-- ---- a frame's step

-- how the thread goes on behind it; a thread that ends wakes those that wait for that
abbrev pub onward : Own → Onward → StepScript Turn
onward own (GoesOn s) = Done (Goes (with_stack own s) None)
onward own (EndsThread s) = Ask Finish (λ _. Done (Goes (with_stack own s) None))
onward own Exits = Done machine.Exits
onward own Aborts = Done machine.Aborts

-- what a frame plans, in a step
abbrev pub in_step : Own → Plan (MemoryScript Onward) → Plan (StepScript Turn)
in_step own plan =
    record { creates = plan.creates; asks = plan.asks; go = λ picks. memory_part (plan.go picks) >>= onward own }

-- the step of a thread at a statement or a terminator
abbrev pub frame_step : Look → Own → TurnPlan
frame_step look own = reads (frame_plan look own.thread own.stack) >>= λ plan. Done (in_step own plan)

-- ---- intrinsics

-- its value is stored, and the thread goes on
abbrev pub finishing : Own → DueDo → Operands → Option Val → Option Own → StepScript Turn
finishing own d o v started = memory_part (finish own.stack d o v) >>= λ s. Done (Goes (with_stack own s) started)

-- `payload`: the last one, which stays
abbrev pub last_payload : List Pointer → Operation
last_payload [] = Undefined (plainly NoPayload)
last_payload (p ∷ payloads) = instant (Done (Some (val.Ptr p)))

-- the types of what a thread's function keeps: its result, which is the empty tuple, and its argument
abbrev pub thread_types : List Ty
thread_types = ty.Tuple 0 1 [] ∷ ty.Raw ∷ []

-- a new thread, in the frame of its function
abbrev pub new_thread : ℕ → Frame → Own
new_thread number frame = record { thread = number; stack = record { frames = frame ∷ []; payloads = [] } }

-- the argument is stored before the new thread's number is
abbrev pub start : Own → DueDo → Operands → ℕ → Function → Val → List ℕ → StepScript Turn
start own d o number fn argument picks = do
  frame ← memory_part (enter number (Some fn) (argument ∷ []) picks)
  thread ← Ask Start Done
  finishing own d o (Some (val.Int thread)) (Some (new_thread thread frame))

-- 118 unless the function takes one raw pointer and gives nothing
abbrev pub spawn_types : Own → DueDo → Operands → ℕ → Function → Val → Option (List Ty) → TurnPlan
spawn_types own d o number fn argument None = IllFormed
spawn_types own d o number fn argument (Some types) =
    if same_types thread_types types
    then Done (record { creates = CreatesThread; asks = storage_asks types; go = start own d o number fn argument })
    else Undefined (plainly SignatureMismatch)

-- a thread is started with the function of this number, which is to be there
abbrev pub spawn_function : Own → DueDo → Operands → ℕ → Val → Option Function → TurnPlan
spawn_function own d o number argument None = IllFormed
spawn_function own d o number argument (Some fn) = spawn_types own d o number fn argument (kept_types fn)

-- the same of a function of the program; what has no number is none
abbrev pub spawn_number : Look → Own → DueDo → Operands → Val → Option ℕ → TurnPlan
spawn_number look own d o argument None = Undefined (plainly NotAFunction)
spawn_number look own d o argument (Some number) =
    spawn_function own d o number argument (slice_get look.program.functions number)

-- `spawn`: 117, 118; then the storage of the new thread's first frame
abbrev pub spawn : Look → Own → DueDo → Operands → List Val → TurnPlan
spawn look own d o (callee ∷ argument ∷ []) =
    pointer callee >>= λ c. spawn_number look own d o argument (callee_of look.functions c)
spawn look own d o _ = IllFormed

-- an operation, and then the thread goes on with its result
abbrev pub finished : Own → DueDo → Operands → Operation → TurnPlan
finished own d o operating = operating >>= λ plan. Done (planned plan (λ v. finishing own d o v None))

-- the step of an intrinsic with its operands
abbrev pub operated : Look → Own → DueDo → Operands → Intrinsic → TurnPlan
operated look own d o intrinsic.Spawn = spawn look own d o o.args
operated look own d o intrinsic.Payload = finished own d o (last_payload own.stack.payloads)
operated look own d o op = finished own d o (operation op o.args o.arg_types o.result_type)

-- the operands of an intrinsic are evaluated, and then its step is taken
abbrev pub do_step : Look → Own → DueDo → TurnPlan
do_step look own d = reads (operands look d) >>= λ o. operated look own d o d.op

-- ---- the step

-- the step of a thread: an intrinsic where one is due, and else that of its frame
abbrev pub step_due : Look → Own → Option DueDo → TurnPlan
step_due look own None = frame_step look own
step_due look own (Some d) = do_step look own d

-- THE STEP OF A THREAD
unfoldable pub own_step : Look → Own → TurnPlan
own_step look own = step_due look own (next_do look own.stack)

-- the language of the machine
abbrev pub thread_step : Look → Language Own
thread_step look = record { next = own_step look; edition = look.program.edition }
