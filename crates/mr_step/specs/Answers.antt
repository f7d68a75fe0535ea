-- How starts and steps are answered, each answer with its cause.
use Rattle.std.specs.Prelude.{◌≡◌, ℕ, ◌+◌, true, false, All, List, [], ◌∷◌, take, Option, None, Some, Result, Ok, Err}
use Rattle.mr_base.specs.declared.byte.AllocId.{AllocId}
use Rattle.mr_base.specs.declared.reason.Verdict.{Verdict}
use Rattle.mr_base.specs.declared.reason.Verdict.TheVariants as verdict
use Rattle.mr_ast.specs.declared.program.Program.{Program}
use Rattle.mr_event.specs.FootOk.{IsFootOk}
use Rattle.mr_event.specs.Footprint.{Footprint}
use Rattle.mr_sched.specs.declared.schedule.Entry.{Entry}
use Rattle.mr_plan.specs.Legal.{Fault}
use Rattle.mr_plan.specs.Runs.{Config, foot_from, has_rule}
use Rattle.mr_exchange.specs.StartSteps.{Own, thread_step}
use Rattle.mr_exchange.specs.StartRuns.{program_fault, program_step}
use Rattle.mr_exchange.specs.StartStart.{start_fault, start_config, look_of}
use Rattle.mr_step.specs.declared.fault.StepFault.{StepFault}
use Rattle.mr_step.specs.declared.fault.StepFault.TheVariants as answer
use Rattle.mr_step.specs.declared.fault.Turn.{Turn}
use Rattle.mr_step.specs.declared.fault.Turn.TheVariants as turn
use Rattle.mr_step.specs.Standing.{Standing}

abbrev pub fault_of : ℕ → Option AllocId → Fault
fault_of code earlier = record { code = code; earlier = earlier }

abbrev pub turn_of : Verdict → Turn
turn_of verdict.Running = turn.Went
turn_of verdict.Exit = turn.Stopped verdict.Exit
turn_of verdict.Leak = turn.Stopped verdict.Leak
turn_of verdict.Abort = turn.Stopped verdict.Abort
turn_of verdict.Deadlock = turn.Stopped verdict.Deadlock
turn_of (verdict.Undefined r) = turn.Stopped (verdict.Undefined r)

abbrev pub standing : Program → List ℕ → Standing
standing p picks = record { look = look_of p picks; failed = false; config = start_config p picks }

-- a start stands where the start line leads, or tells the rule that it breaks
abbrev pub StartAnswer : Program → List ℕ → Result Standing StepFault → Type 0
StartAnswer p picks (Ok m) = (start_fault p picks ≡ None) × (m ≡ standing p picks)
StartAnswer p picks (Err (answer.BadEntry code earlier)) = start_fault p picks ≡ Some (fault_of code earlier)
StartAnswer p picks (Err answer.Memory) = Unit {0}
StartAnswer p picks (Err answer.Failed) = ⊥

-- What is handed out behind a step with these footprints, before and behind which so many steps were completed: the
-- footprint of a step that completed; a step that itself stopped has none, and leaves what was there.
pub data Hands (feet : List Footprint) (before after : ℕ) (old new : Footprint) : Type 0 where
  completed : feet ≡ new ∷ [] → after ≡ before + 1 → Hands feet before after old new
  stopped : feet ≡ [] → after ≡ before → new ≡ old → Hands feet before after old new

-- the machine made the step of a legal entry, which has a rule, and handed out its footprint, which keeps the limits
pub record Steps (e : Entry) (old new : Standing) (f f' : Footprint) (went : Turn) : Type 0 where
  pub working : old.failed ≡ false
  pub legal : program_fault old.look old.config e ≡ None
  pub has_rule : has_rule (thread_step old.look) e.thread e.picks old.config.state ≡ true
  pub after : new ≡ record { look = old.look; failed = false; config = program_step old.look old.config e }
  pub foot : Hands
      (foot_from (thread_step old.look) e.thread e.picks old.config.state)
      old.config.completed new.config.completed f f'
  pub ok : All IsFootOk (foot_from (thread_step old.look) e.thread e.picks old.config.state)
  pub turn : went ≡ turn_of new.config.verdict

-- the entry breaks this rule, and nothing changed
pub record Refuses (e : Entry) (old new : Standing) (f f' : Footprint) (fault : Fault) : Type 0 where
  pub working : old.failed ≡ false
  pub broken : program_fault old.look old.config e ≡ Some fault
  pub same : new ≡ old
  pub foot : f' ≡ f

-- what was told of a run is told still: its prints, how many steps completed, and its verdict
pub record KeepsTold (old new : Config Own) : Type 0 where
  pub output : new.output ≡ old.output
  pub completed : new.completed ≡ old.completed
  pub verdict : new.verdict ≡ old.verdict

-- Memory ran out, and the machine has failed, which tells what it told before. The entry may break a rule, for a step
-- can ask behind what ran out.
pub record RunsOut (old new : Standing) : Type 0 where
  pub working : old.failed ≡ false
  pub failed : new.failed ≡ true
  pub look : new.look ≡ old.look
  pub told : KeepsTold old.config new.config

-- an earlier step had failed
pub record IsFailed (old new : Standing) (f f' : Footprint) : Type 0 where
  pub failed : old.failed ≡ true
  pub same : new ≡ old
  pub foot : f' ≡ f

abbrev pub StepAnswer : Entry → Standing → Standing → Footprint → Footprint → Result Turn StepFault → Type 0
StepAnswer e old new f f' (Ok t) = Steps e old new f f' t
StepAnswer e old new f f' (Err (answer.BadEntry code earlier)) = Refuses e old new f f' (fault_of code earlier)
StepAnswer e old new f f' (Err answer.Memory) = RunsOut old new
StepAnswer e old new f f' (Err answer.Failed) = IsFailed old new f f'

-- a step of which no footprint is handed out is answered as one of which one is
abbrev pub GoAnswer : Entry → Standing → Standing → Result Turn StepFault → Type 0
GoAnswer e old new went = (f : Footprint) × (f' : Footprint) × StepAnswer e old new f f' went

-- the last step, which completed and printed what stands behind so many prints, is told no more
pub record IsTakenBack (prints : ℕ) (old new : Config Own) : Type 0 where
  pub output : new.output ≡ take prints old.output
  pub completed : new.completed + 1 ≡ old.completed
  pub verdict : new.verdict ≡ verdict.Running

-- memory ran out where the footprint of the last step was to be handed out: the machine has failed, and tells it no
-- more
pub record FailsToHand (prints : ℕ) (old new : Standing) : Type 0 where
  pub failed : new.failed ≡ true
  pub look : new.look ≡ old.look
  pub back : IsTakenBack prints old.config new.config

-- The footprint of the last completed step is handed out; or memory ran out.
abbrev pub HandAnswer : ℕ → Standing → Standing → Footprint → Result (Unit {0}) StepFault → Type 0
HandAnswer prints old new f (Ok u) = (new ≡ old) × ((last : Footprint) → old.config.last ≡ Some last → f ≡ last)
HandAnswer prints old new f (Err e) = (e ≡ answer.Memory) × FailsToHand prints old new
