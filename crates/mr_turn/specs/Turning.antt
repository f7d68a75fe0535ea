-- What the turn of a thread comes to, and how the code answers it.
use Rattle.std.specs.Prelude.{◌≡◌, ℕ, ◌<◌, ◌^◌, Bool, true, false, List, [], ◌∷◌, length, Option, None, Some, Result}
use Rattle.std.specs.Prelude.{Ok, Err}
use Rattle.std.specs.Option.{option_map}
use Rattle.mr_base.specs.Stops.{stop_with}
use Rattle.mr_base.specs.declared.reached.Reached.{Reached}
use Rattle.mr_base.specs.declared.reason.Reason.{Reason}
use Rattle.mr_base.specs.declared.thread.Event.TheVariants.{Quiet}
use Rattle.mr_mem.specs.Memory.{ranges_of}
use Rattle.mr_sched.specs.declared.schedule.Ask.{Ask}
use Rattle.mr_mem.specs.declared.fault.Fault.{Fault as MemoryFault}
use Rattle.mr_mem.specs.declared.fault.Fault.TheVariants as memory_fault
use Rattle.mr_base.specs.Script.{Outcome, Refused, Went, run, ◌>>=◌}
use Rattle.mr_sync.specs.Tables.{IsEnabled, Tables, ended}
use Rattle.mr_eval.specs.Tally.{start_tally}
use Rattle.mr_eval.specs.World.{tally_of}
use Rattle.mr_eval.specs.declared.scene.Scene.{Scene}
use Rattle.mr_frame.specs.PlanLegal.{Fault, needs_fault, picks_fault}
use Rattle.mr_frame.specs.PlanMachine.{Aborts, Exits, Goes, Plan, needs_of}
use Rattle.mr_frame.specs.PlanNotes.{Notes, event_of, start_notes}
use Rattle.mr_frame.specs.PlanQueries.{Shared, StepScript, answer}
use Rattle.mr_frame.specs.declared.flow.Flow.{Flow}
use Rattle.mr_frame.specs.declared.flow.Flow.TheVariants as flow
use Rattle.mr_frame.specs.declared.look.Look.{Look as KeptLook}
use Rattle.mr_frame.specs.declared.stack.Stack.{Stack as KeptStack}
use Rattle.mr_frame.specs.Fits.{FitsStack}
use Rattle.mr_frame.specs.Frames.{Look}
use Rattle.mr_frame.specs.Kept.{IsReady, look_of, stack_of}
use Rattle.mr_frame.specs.Standing.{IsUncounted}
use Rattle.mr_start.specs.Steps.{Own, Turn, own_step, with_stack}
use Rattle.mr_start.specs.Judging.{fault_of}
use Rattle.mr_turn.specs.declared.deed.Deed.{Deed}
use Rattle.mr_turn.specs.declared.deed.TurnFault.{TurnFault}
use Rattle.mr_turn.specs.declared.deed.TurnFault.TheVariants as answer

-- ---- what is shared, as scene and tables have it

-- what threads share
abbrev pub shared_in : Scene → Tables → Shared
shared_in s x = record { memory = s.memory; statuses = x.statuses; holders = x.holders }

-- what the step noted of memory, and nothing else yet
abbrev pub noted : Scene → Notes
noted s = record (start_notes s.thread s.count) { tally = tally_of s }

abbrev pub begun : Scene → Tables → Shared × Notes
begun s x = (shared_in s x, noted s)

-- a thread's own state
abbrev pub own_of : ℕ → KeptStack → Own
own_of thread s = record { thread = thread; stack = stack_of s }

-- ---- what the step comes to

-- the plan of the step, or why it stops before it has one
unfoldable pub planned : Look → Own → Shared × Notes → Outcome (Plan (StepScript Turn)) (Shared × Notes)
planned look own w = run answer (own_step look own) w

-- what the step comes to with these picks
unfoldable pub turned : Look → Own → List ℕ → Shared × Notes → Outcome Turn (Shared × Notes)
turned look own picks w = run answer (own_step look own >>= λ plan. plan.go picks) w

-- the rule that the picks of an enabled thread break for a plan
abbrev pub picks_break : {A : Type 0} → Shared × Notes → Outcome (Plan A) (Shared × Notes) → List ℕ → Option Fault
picks_break w o picks = needs_fault w.0 w.1.tally.thread w.1.tally.count (needs_of o) picks

-- ---- how the code answers

-- how the thread goes on; a thread that ended has no frame
abbrev pub turn_by : Flow → Own → KeptStack → Option Own → Turn
turn_by flow.Went own s started = Goes (with_stack own (stack_of s)) started
turn_by flow.Ended own s started = Goes (with_stack own (record (stack_of s) { frames = [] })) started
turn_by flow.Exit own s started = Exits
turn_by flow.Abort own s started = Aborts

abbrev pub is_end : Flow → Bool
is_end flow.Ended = true
is_end flow.Went = false
is_end flow.Exit = false
is_end flow.Abort = false

-- the lines of a step, one at most
abbrev pub printed_lines : Option (List ℕ) → List (List ℕ)
printed_lines None = []
printed_lines (Some text) = text ∷ []

-- The step went on to this, with this scene, these tables and this stack behind it, and noted what the deed tells. A
-- thread that it starts has the number behind those that there were.
pub record Turned (own : Own) (threads : ℕ) (o : Outcome Turn (Shared × Notes)) (d : Deed) (stack : KeptStack)
    (s : Scene) (x : Tables) : Type 0 where
  pub notes : Notes
  pub goes : o ≡ Went (turn_by d.flow own stack (option_map (own_of threads) d.started)) (shared_in s x, notes)
  pub tally : notes.tally ≡ tally_of s
  pub event : event_of notes.events ≡ d.event
  pub ended : notes.ended ≡ is_end d.flow
  pub woken : notes.woken ≡ d.woken.items
  pub printed : notes.printed ≡ printed_lines (option_map (λ text. text.items) d.text)

-- the deed of a frame's step: a thread that ended wakes those that wait for that
abbrev pub Wakes : Flow → ℕ → Tables → Tables → List ℕ → Type 0
Wakes flow.Ended thread x x' woken = (x' ≡ (ended thread x).0) × (woken ≡ (ended thread x).1)
Wakes flow.Went thread x x' woken = (x' ≡ x) × (woken ≡ [])
Wakes flow.Exit thread x x' woken = (x' ≡ x) × (woken ≡ [])
Wakes flow.Abort thread x x' woken = (x' ≡ x) × (woken ≡ [])

pub record IsFlow (f : Flow) (thread : ℕ) (x x' : Tables) (d : Deed) : Type 0 where
  pub flow : d.flow ≡ f
  pub event : d.event ≡ Quiet
  pub started : d.started ≡ None
  pub text : d.text ≡ None
  pub wakes : Wakes f thread x x' d.woken.items

-- what is left where an entry is refused
pub record IsSame (k : KeptStack) (s : Scene) (x : Tables) (k' : KeptStack) (s' : Scene) (x' : Tables) : Type 0 where
  pub stack : k' ≡ k
  pub memory : s'.memory ≡ s.memory
  pub tables : x' ≡ x

-- The deed of a step whose picks break no rule, or the rule that they break, or the reason for which the step itself
-- stops. A stop speaks of the bytes that were refused last, where its reason speaks of bytes.
abbrev pub TurnAnswer : Result Deed TurnFault → Option Fault → Outcome Turn (Shared × Notes) → Option Reached
    → (Deed → Type 0) → Type 0 → Type 0
TurnAnswer (Ok d) fault o last Went' same = (fault ≡ None) × Went' d
TurnAnswer (Err (answer.Broken e)) fault o last Went' same = (fault ≡ Some (fault_of e)) × same
TurnAnswer (Err (answer.Undefined r)) fault o last Went' same = (fault ≡ None) × (o ≡ Refused (stop_with last r))
TurnAnswer (Err answer.Memory) fault o last Went' same = Unit {0}

-- An enabled thread with a stack that fits the program begins its step; it has made fewer than 2^62 allocations, none
-- of them with its count or a greater one.
pub record BeginsTurn (look : KeptLook) (stack : KeptStack) (s : Scene) (x : Tables) : Type 0 where
  pub ready : IsReady look
  pub fits : FitsStack look.program.now (stack_of stack)
  pub begins : tally_of s ≡ start_tally s.thread s.count
  pub enabled : IsEnabled s.thread x
  pub uncounted : IsUncounted s.memory s.thread s.count
  pub few : s.count < 2 ^ 62

-- ---- parts

-- a refusal of memory
abbrev pub fault_from : MemoryFault → TurnFault
fault_from (memory_fault.Undefined r) = answer.Undefined r
fault_from memory_fault.Memory = answer.Memory

-- whether the picks for these asks of the step's thread break a rule
abbrev pub asks_break : Scene → Tables → List Ask → List ℕ → Option Fault
asks_break s x asks picks = picks_fault x.statuses (ranges_of s.memory) s.thread s.count asks picks

-- the judging of picks, which comes before anything is done
abbrev pub JudgeAnswer : Result (Unit {0}) TurnFault → Option Fault → Type 0
JudgeAnswer (Ok u) fault = fault ≡ None
JudgeAnswer (Err (answer.Broken e)) fault = fault ≡ Some (fault_of e)
JudgeAnswer (Err (answer.Undefined r)) fault = ⊥
JudgeAnswer (Err answer.Memory) fault = ⊥

-- the same, unless memory runs out before
abbrev pub IsJudged : Result (Unit {0}) TurnFault → Option Fault → Type 0
IsJudged (Ok u) fault = fault ≡ None
IsJudged (Err (answer.Broken e)) fault = fault ≡ Some (fault_of e)
IsJudged (Err (answer.Undefined r)) fault = ⊥
IsJudged (Err answer.Memory) fault = Unit {0}

-- why a step stops that needs no pick: it may have none
abbrev pub StopAnswer : TurnFault → Reason → List ℕ → Type 0
StopAnswer (answer.Broken e) r picks = (s : Scene) (x : Tables) → asks_break s x [] picks ≡ Some (fault_of e)
StopAnswer (answer.Undefined q) r picks = (q ≡ r) × (picks ≡ [])
StopAnswer answer.Memory r picks = ⊥

-- the deed of a step whose picks were judged, or the reason for which it stops, where these bytes were refused last
abbrev pub DeedAnswer : Result Deed TurnFault → Outcome Turn (Shared × Notes) → Option Reached → (Deed → Type 0)
    → Type 0
DeedAnswer (Ok d) o last Went' = Went' d
DeedAnswer (Err (answer.Broken e)) o last Went' = ⊥
DeedAnswer (Err (answer.Undefined r)) o last Went' = o ≡ Refused (stop_with last r)
DeedAnswer (Err answer.Memory) o last Went' = Unit {0}

-- a deed that is so, unless memory ran out
abbrev pub TellsDeed : Result Deed TurnFault → (Deed → Type 0) → Type 0
TellsDeed (Ok d) IsSo = IsSo d
TellsDeed (Err e) IsSo = e ≡ answer.Memory

-- ---- of a thread with this stack, scene and tables

-- the rule that the picks break, and what its step comes to
abbrev pub breaks : KeptLook → KeptStack → Scene → Tables → List ℕ → Option Fault
breaks look stack s x picks = picks_break (begun s x) (planned (look_of look) (own_of s.thread stack) (begun s x)) picks

abbrev pub comes_to : KeptLook → KeptStack → Scene → Tables → List ℕ → Outcome Turn (Shared × Notes)
comes_to look stack s x picks = turned (look_of look) (own_of s.thread stack) picks (begun s x)

-- a deed of it, with what stands behind it
abbrev pub Does : KeptStack → Scene → Tables → Outcome Turn (Shared × Notes) → KeptStack → Scene → Tables → Deed
    → Type 0
Does stack s x o stack' s' x' d = Turned (own_of s.thread stack) (length x.statuses) o d stack' s' x'

-- HOW A TURN IS ANSWERED, with stack, scene and tables behind it: by a deed; by the rule that the picks break, and then
-- they are as before; or by the reason for which the step itself stops
abbrev pub TakesTurn : KeptLook → KeptStack → Scene → Tables → List ℕ → Result Deed TurnFault
    → KeptStack → Scene → Tables → Type 0
TakesTurn look stack s x picks told stack' s' x' =
    TurnAnswer told (breaks look stack s x picks) (comes_to look stack s x picks) s'.notes.refused
    (Does stack s x (comes_to look stack s x picks) stack' s' x') (IsSame stack s x stack' s' x')

-- the same of a turn whose picks were judged
abbrev pub TakesStep : KeptLook → KeptStack → Scene → Tables → List ℕ → Result Deed TurnFault
    → KeptStack → Scene → Tables → Type 0
TakesStep look stack s x picks told stack' s' x' =
    DeedAnswer told (comes_to look stack s x picks) s'.notes.refused
    (Does stack s x (comes_to look stack s x picks) stack' s' x')
