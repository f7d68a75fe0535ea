-- How an entry is answered, and the turn of its thread.
use Rattle.std.specs.Prelude.{◌≡◌, ℕ, ◌<◌, ◌^◌, true, false, List, length, Option, None, Some, Result, Ok, Err}
use Rattle.mr_base.specs.Stops.{Stop, stop_with}
use Rattle.mr_base.specs.declared.reason.Verdict.TheVariants.{Running, Undefined}
use Rattle.mr_eval.specs.declared.scene.Scene.{Scene}
use Rattle.mr_mem.specs.Memory.{Memory}
use Rattle.mr_sched.specs.declared.schedule.Entry.{Entry}
use Rattle.mr_base.specs.Script.{Outcome, Refused}
use Rattle.mr_sync.specs.Tables.{IsEnabled, Tables}
use Rattle.mr_plan.specs.Legal.{Fault}
use Rattle.mr_plan.specs.Notes.{Notes, start_notes}
use Rattle.mr_plan.specs.Queries.{Shared}
use Rattle.mr_plan.specs.Runs.{Config, entry_fault, machine_step}
use Rattle.mr_frame.specs.declared.look.Look.{Look as KeptLook}
use Rattle.mr_frame.specs.Fits.{FitsStack}
use Rattle.mr_frame.specs.Frames.{Look}
use Rattle.mr_frame.specs.Kept.{IsReady, stack_of}
use Rattle.mr_frame.specs.Standing.{IsUncounted}
use Rattle.mr_exchange.specs.StartSteps.{Own, Turn, thread_step}
use Rattle.mr_turn.specs.declared.deed.Deed.{Deed}
use Rattle.mr_turn.specs.declared.deed.TurnFault.{TurnFault}
use Rattle.mr_turn.specs.declared.deed.TurnFault.TheVariants as turn
use Rattle.mr_turn.specs.Turning.{Turned, own_of, picks_break, planned, turned}
use Rattle.mr_step.specs.declared.fault.StepFault.{StepFault}
use Rattle.mr_step.specs.declared.fault.StepFault.TheVariants as answer
use Rattle.mr_step.specs.declared.progress.Progress.{Progress}
use Rattle.mr_step.specs.declared.progress.Thread.{Thread as KeptThread}
use Rattle.mr_step.specs.Answers.{KeepsTold, fault_of}
use Rattle.mr_step.specs.Kept.{IsSound, config_of}

-- ---- the turn of a thread

-- what is shared where thread t begins its turn, with nothing noted
abbrev pub world_at : ℕ → KeptThread → Memory → Tables → Shared × Notes
world_at t th m x = (record { memory = m; statuses = x.statuses; holders = x.holders }, start_notes t th.count)

-- the rule that these picks break for the turn, and what the turn comes to with them
abbrev pub act_fault : Look → ℕ → List ℕ → KeptThread → Memory → Tables → Option Fault
act_fault look t picks th m x =
    picks_break (world_at t th m x) (planned look (own_of t th.stack) (world_at t th m x)) picks

abbrev pub act_outcome : Look → ℕ → List ℕ → KeptThread → Memory → Tables → Outcome Turn (Shared × Notes)
act_outcome look t picks th m x = turned look (own_of t th.stack) picks (world_at t th m x)

-- an enabled thread, with a stack that fits the program, and none of whose allocations has its count or a greater one
pub record BeginsAct (look : KeptLook) (t : ℕ) (th : KeptThread) (m : Memory) (x : Tables) : Type 0 where
  pub ready : IsReady look
  pub fits : FitsStack look.program.now (stack_of th.stack)
  pub enabled : IsEnabled t x
  pub uncounted : IsUncounted m t th.count

-- the turn is taken: only the stack of the thread and the tables have changed, and memory is with the scene
pub record Acts (look : Look) (t : ℕ) (picks : List ℕ) (old new : KeptThread) (m : Memory) (x y : Tables)
    (s : Scene) (d : Deed) : Type 0 where
  pub legal : act_fault look t picks old m x ≡ None
  pub turned : Turned
      (own_of t old.stack) (length x.statuses) (act_outcome look t picks old m x) d new.stack s y
  pub thread : new ≡ record old { stack = new.stack }

-- the picks break this rule, and nothing changed
pub record Keeps (look : Look) (t : ℕ) (picks : List ℕ) (old new : KeptThread) (m n : Memory) (x y : Tables)
    (f : Fault) : Type 0 where
  pub broken : act_fault look t picks old m x ≡ Some f
  pub thread : new ≡ old
  pub memory : n ≡ m
  pub tables : y ≡ x

-- the step itself stops with this
pub record Halts (look : Look) (t : ℕ) (picks : List ℕ) (old : KeptThread) (m : Memory) (x : Tables)
    (r : Stop) : Type 0 where
  pub legal : act_fault look t picks old m x ≡ None
  pub refused : act_outcome look t picks old m x ≡ Refused r

-- how the turn is answered, with this scene behind it
abbrev pub ActAnswer : Look → ℕ → List ℕ → KeptThread → KeptThread → Memory → Scene → Tables → Tables
    → Result Deed TurnFault → Type 0
ActAnswer look t picks old new m s x y (Ok d) = Acts look t picks old new m x y s d
ActAnswer look t picks old new m s x y (Err (turn.Broken e)) =
    Keeps look t picks old new m s.memory x y (fault_of e.code e.earlier)
ActAnswer look t picks old new m s x y (Err (turn.Undefined r)) =
    Halts look t picks old m x (stop_with s.notes.refused r)
ActAnswer look t picks old new m s x y (Err turn.Memory) = Unit {0}

-- a step without a turn stops, and speaks of the bytes that were refused last where its reason speaks of bytes; or its
-- picks break a rule, or memory ran out
abbrev pub WithoutAnswer : TurnFault → Progress → Progress → Result (Unit {0}) StepFault → Type 0
WithoutAnswer (turn.Undefined r) old new result =
    (result ≡ Ok tt)
    × (new ≡ record old { gone = true; verdict = Undefined r; about = (stop_with old.scene.notes.refused r).about })
WithoutAnswer (turn.Broken e) old new result = (result ≡ Err (answer.BadEntry e.code e.earlier)) × (new ≡ old)
WithoutAnswer turn.Memory old new result = (result ≡ Err answer.Memory) × (new ≡ old)

-- ---- an entry

-- the machine can look things up, its state keeps what states keep, and fewer than 2^32 steps were completed
pub record IsSoundBefore (look : KeptLook) (p : Progress) : Type 0 where
  pub ready : IsReady look
  pub sound : IsSound look.program.now (config_of p)
  pub steps : p.completed < 2 ^ 32

-- the machine runs, and the thread is enabled
pub record IsDue (look : KeptLook) (t : ℕ) (p : Progress) : Type 0 where
  pub before : IsSoundBefore look p
  pub there : p.gone ≡ false
  pub running : p.verdict ≡ Running
  pub enabled : IsEnabled t p.sync

-- the same of a thread whose next step is looked at and not taken
pub record CanAsk (look : KeptLook) (t : ℕ) (p : Progress) : Type 0 where
  pub ready : IsReady look
  pub sound : IsSound look.program.now (config_of p)
  pub there : p.gone ≡ false
  pub enabled : IsEnabled t p.sync

-- a legal entry leads on
pub record Advances (look : Look) (e : Entry) (old new : Config Own) : Type 0 where
  pub legal : entry_fault (thread_step look) old e ≡ None
  pub after : new ≡ machine_step (thread_step look) old e

-- the entry breaks this rule, and nothing changed
pub record Stays (look : Look) (e : Entry) (old new : Config Own) (fault : Fault) : Type 0 where
  pub broken : entry_fault (thread_step look) old e ≡ Some fault
  pub same : new ≡ old

abbrev pub AdvanceAnswer : Look → Entry → Config Own → Config Own → Result (Unit {0}) StepFault → Type 0
AdvanceAnswer look e old new (Ok x) = Advances look e old new
AdvanceAnswer look e old new (Err (answer.BadEntry code earlier)) = Stays look e old new (fault_of code earlier)
AdvanceAnswer look e old new (Err answer.Memory) = KeepsTold old new
AdvanceAnswer look e old new (Err answer.Failed) = ⊥
