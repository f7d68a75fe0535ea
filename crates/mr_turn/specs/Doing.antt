-- What the turn of a thread comes to whose next step is an intrinsic, behind the evaluation of what it is given.
use Rattle.std.specs.Prelude.{◌≡◌, ℕ, ◌<◌, ◌^◌, true, List, [], ◌∷◌, length, Option, None, Some, Result, Ok, Err}
use Rattle.std.specs.Prelude.{if◌then◌else◌, slice_get}
use Rattle.std.specs.Option.{option_map}
use Rattle.mr_ast.specs.declared.program.Function.{Function}
use Rattle.mr_ast.specs.declared.program.Intrinsic.{Intrinsic}
use Rattle.mr_ast.specs.declared.program.Intrinsic.TheVariants as intrinsic
use Rattle.mr_ast.specs.declared.types.IntType.TheVariants.{U32}
use Rattle.mr_ast.specs.declared.types.Ty.{Ty}
use Rattle.mr_ast.specs.declared.types.Ty.TheVariants as ty
use Rattle.mr_base.specs.declared.byte.Pointer.{Pointer}
use Rattle.mr_mem.specs.Memory.{ranges_of}
use Rattle.mr_value.specs.declared.val.Val.{Val}
use Rattle.mr_value.specs.declared.val.Val.TheVariants as val
use Rattle.mr_value.specs.Shape.{has_shape}
use Rattle.mr_frame.specs.PlanLegal.{Fault, creation_fault, else_fault, picks_fault}
use Rattle.mr_frame.specs.Calls.{callee_of, kept_types, same_types, storage_asks}
use Rattle.mr_typing.specs.Intrinsics.{is_print}
use Rattle.mr_intr.specs.Effects.{listed}
use Rattle.mr_intr.specs.Needs.{asks_of, creation_of}
use Rattle.mr_intr.specs.declared.need.Needs.{Needs}
use Rattle.mr_intr.specs.declared.effect.Effect.{Effect}
use Rattle.mr_frame.specs.declared.flow.Flow.TheVariants as flow
use Rattle.mr_turn.specs.declared.deed.Deed.{Deed}
use Rattle.mr_base.specs.declared.thread.Event.{Event}
use Rattle.mr_base.specs.declared.thread.Event.TheVariants.{Quiet, Spawn}
use Rattle.mr_base.specs.Script.{Outcome, Refused, Went, run, ◌>>=◌}
use Rattle.mr_base.specs.Stops.{stop_with}
use Rattle.mr_base.specs.declared.reached.Reached.{Reached}
use Rattle.mr_eval.specs.World.{World, world_of}
use Rattle.mr_turn.specs.declared.deed.TurnFault.{TurnFault}
use Rattle.mr_turn.specs.declared.deed.TurnFault.TheVariants as answer
use Rattle.mr_sync.specs.Tables.{IsEnabled, Tables}
use Rattle.mr_eval.specs.declared.scene.Scene.{Scene}
use Rattle.mr_frame.specs.PlanMachine.{Plan}
use Rattle.mr_frame.specs.PlanNotes.{Notes}
use Rattle.mr_frame.specs.PlanQueries.{Shared, StepScript, answer}
use Rattle.mr_frame.specs.Operations.{DueDo, Operands, OperandsFit, next_do}
use Rattle.mr_frame.specs.declared.dos.DoCall.{DoCall}
use Rattle.mr_frame.specs.declared.look.Look.{Look as KeptLook}
use Rattle.mr_frame.specs.declared.stack.Stack.{Stack as KeptStack}
use Rattle.mr_frame.specs.Doing.{FitsResult, operands_of}
use Rattle.mr_frame.specs.Effects.{finished}
use Rattle.mr_frame.specs.Fits.{FitsStack}
use Rattle.mr_frame.specs.Frames.{Look, Stack}
use Rattle.mr_frame.specs.Kept.{IsReady, look_of, stack_of}
use Rattle.mr_frame.specs.Standing.{IsUncounted}
use Rattle.mr_start.specs.Steps.{Own, Turn, operated, thread_types}
use Rattle.mr_turn.specs.Turning.{DeedAnswer, Does, IsSame, TurnAnswer, asks_break, begun, own_of, picks_break, shared_in}

-- the plan of an intrinsic that is given this, or why it stops before it has one
unfoldable pub do_planned : Look → Own → DueDo → Operands → Shared × Notes
    → Outcome (Plan (StepScript Turn)) (Shared × Notes)
do_planned look own d o w = run answer (operated look own d o d.op) w

-- what it comes to with these picks
unfoldable pub do_turned : Look → Own → DueDo → Operands → List ℕ → Shared × Notes → Outcome Turn (Shared × Notes)
do_turned look own d o picks w = run answer (operated look own d o d.op >>= λ plan. plan.go picks) w

-- The intrinsic is due and was given this by then, which fits it; its thread is enabled.
pub record IsGiven (look : KeptLook) (stack : KeptStack) (s : Scene) (x : Tables) (call : DoCall)
    (d : DueDo) : Type 0 where
  pub ready : IsReady look
  pub fits : FitsStack look.program.now (stack_of stack)
  pub due : next_do (look_of look) (stack_of stack) ≡ Some d
  pub operands : OperandsFit d.op (operands_of call)
  pub enabled : IsEnabled s.thread x
  pub uncounted : IsUncounted s.memory s.thread s.count
  pub few : s.count < 2 ^ 62

-- the rule that the picks break, and what the step comes to
abbrev pub do_breaks : KeptLook → KeptStack → Scene → Tables → DoCall → DueDo → List ℕ → Option Fault
do_breaks look stack s x call d picks =
    picks_break (begun s x) (do_planned (look_of look) (own_of s.thread stack) d (operands_of call) (begun s x)) picks

abbrev pub do_comes_to : KeptLook → KeptStack → Scene → Tables → DoCall → DueDo → List ℕ → Outcome Turn (Shared × Notes)
do_comes_to look stack s x call d picks =
    do_turned (look_of look) (own_of s.thread stack) d (operands_of call) picks (begun s x)

-- the thread has made fewer than 2^62 allocations, none of them with its count or a greater one
pub record CanAsk (s : Scene) : Type 0 where
  pub uncounted : IsUncounted s.memory s.thread s.count
  pub few : s.count < 2 ^ 62

-- the rule that the picks break for what an operation needs
abbrev pub MeetsNeeds : Scene → Tables → Needs → List ℕ → Option Fault
MeetsNeeds s x n picks =
    else_fault (creation_fault (shared_in s x) (creation_of n.creates)) (asks_break s x (asks_of n.ask) picks)

-- an intrinsic that is due can end with this value
pub record CanEnd (look : KeptLook) (stack : KeptStack) (call : DoCall) (v : Option Val) : Type 0 where
  pub ready : IsReady look
  pub fits : FitsStack look.program.now (stack_of stack)
  pub due : DueDo
  pub is : next_do (look_of look) (stack_of stack) ≡ Some due
  pub result : FitsResult call.result call.result_type v

-- The deed of an intrinsic that ended, or the reason for which the store of its result stops, where these bytes were
-- refused last.
abbrev pub EndAnswer : Result Deed TurnFault → Outcome Stack World → Stack → World → Option Reached → (Deed → Type 0)
    → Type 0
EndAnswer (Ok d) o k w last IsSo = (o ≡ Went k w) × IsSo d
EndAnswer (Err (answer.Broken e)) o k w last IsSo = ⊥
EndAnswer (Err (answer.Undefined r)) o k w last IsSo = o ≡ Refused (stop_with last r)
EndAnswer (Err answer.Memory) o k w last IsSo = Unit {0}

-- the thread goes on, and nothing else was done
pub record IsNoted (d : Deed) : Type 0 where
  pub flow : d.flow ≡ flow.Went
  pub event : d.event ≡ Quiet
  pub woken : d.woken.items ≡ []
  pub started : d.started ≡ None
  pub text : d.text ≡ None

-- a thread with this stack and number was started
pub record IsNewThread (new : KeptStack) (number : ℕ) (d : Deed) : Type 0 where
  pub flow : d.flow ≡ flow.Went
  pub event : d.event ≡ Spawn number
  pub woken : d.woken.items ≡ number ∷ []
  pub started : d.started ≡ Some new
  pub text : d.text ≡ None

-- the deed of an operation, with the text of a print
pub record IsDeed (op : Intrinsic) (event : Event) (woken : Option ℕ) (printed : List ℕ) (d : Deed) : Type 0 where
  pub flow : d.flow ≡ flow.Went
  pub noted : d.event ≡ event
  pub awakened : d.woken.items ≡ listed woken
  pub started : d.started ≡ None
  pub text : option_map (λ t. t.items) d.text ≡ (if is_print op then Some printed else None)

abbrev pub IsTold : Intrinsic → Effect → List ℕ → Deed → Type 0
IsTold op e printed d = IsDeed op e.event e.woken printed d

-- ---- the start of a thread

-- what it is given: a pointer to a function, an argument that is a raw pointer, and a place for the thread's number
pub record SpawnGiven (o : Operands) : Type 0 where
  pub callee : Pointer
  pub argument : Val
  pub args : o.args ≡ val.Ptr callee ∷ argument ∷ []
  pub raw : has_shape ty.Raw argument ≡ true
  pub result : o.result_type ≡ Some (ty.Int U32)

-- a pointer that stands for the function of this number, and the types of what this keeps
pub record StandsFor (look : KeptLook) (callee : Pointer) (number : ℕ) : Type 0 where
  pub called : callee_of look.functions.now callee ≡ Some number
  pub function : Function
  pub there : slice_get look.program.now.functions number ≡ Some function
  pub types : List Ty
  pub typed : kept_types function ≡ Some types

-- the function of this number, which is that of a thread
pub record IsStart (look : KeptLook) {o : Operands} (g : SpawnGiven o) (number : ℕ) : Type 0 where
  pub called : callee_of look.functions.now g.callee ≡ Some number
  pub function : Function
  pub there : slice_get look.program.now.functions number ≡ Some function
  pub types : List Ty
  pub typed : kept_types function ≡ Some types
  pub same : same_types thread_types types ≡ true

-- It is due, and its callee is the function of this number.
pub record SpawnsFunction (look : KeptLook) (stack : KeptStack) (s : Scene) (x : Tables) (call : DoCall) (d : DueDo)
    (number : ℕ) : Type 0 where
  pub given : IsGiven look stack s x call d
  pub is : d.op ≡ intrinsic.Spawn
  pub given_to : SpawnGiven (operands_of call)
  pub called : callee_of look.functions.now given_to.callee ≡ Some number
  pub function : Function
  pub there : slice_get look.program.now.functions number ≡ Some function
  pub types : List Ty
  pub typed : kept_types function ≡ Some types

-- It is due, and its picks break no rule.
pub record StartsThread (look : KeptLook) (stack : KeptStack) (s : Scene) (x : Tables) (call : DoCall) (d : DueDo)
    (number : ℕ) (picks : List ℕ) : Type 0 where
  pub given : IsGiven look stack s x call d
  pub is : d.op ≡ intrinsic.Spawn
  pub given_to : SpawnGiven (operands_of call)
  pub at : IsStart look given_to number
  pub lawful : picks_fault [] (ranges_of s.memory) s.thread s.count (storage_asks thread_types) picks ≡ None
  pub few : length x.statuses < 1024

-- ---- answers

-- how the turn of an intrinsic is answered that is due and was given this
abbrev pub TakesDoTurn : KeptLook → KeptStack → Scene → Tables → DoCall → List ℕ → Result Deed TurnFault
    → KeptStack → Scene → Tables → Type 0
TakesDoTurn look stack s x call picks told stack' s' x' =
    (d : DueDo) → next_do (look_of look) (stack_of stack) ≡ Some d
    → TurnAnswer told (do_breaks look stack s x call d picks) (do_comes_to look stack s x call d picks)
    s'.notes.refused (Does stack s x (do_comes_to look stack s x call d picks) stack' s' x')
    (IsSame stack s x stack' s' x')

-- the same of one whose picks were judged
abbrev pub TakesDoStep : KeptLook → KeptStack → Scene → Tables → DoCall → List ℕ → Result Deed TurnFault
    → KeptStack → Scene → Tables → Type 0
TakesDoStep look stack s x call picks told stack' s' x' =
    (d : DueDo) → next_do (look_of look) (stack_of stack) ≡ Some d
    → DeedAnswer told (do_comes_to look stack s x call d picks) s'.notes.refused
    (Does stack s x (do_comes_to look stack s x call d picks) stack' s' x')

-- how the end of such an intrinsic with this result is answered, whose deed is so
abbrev pub EndsDo : KeptLook → KeptStack → Scene → DoCall → Option Val → Result Deed TurnFault → KeptStack → Scene
    → (Deed → Type 0) → Type 0
EndsDo look stack s call value told stack' s' IsSo =
    (d : DueDo) → next_do (look_of look) (stack_of stack) ≡ Some d
    → EndAnswer told (finished (stack_of stack) d (operands_of call) value (world_of s))
    (stack_of stack') (world_of s') s'.notes.refused IsSo
