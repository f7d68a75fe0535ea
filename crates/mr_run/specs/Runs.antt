-- What the run of a program under a schedule comes to, and how the code answers it.
use Rattle.std.specs.Prelude.{◌≡◌, ◌==◌, ◌+◌, ◌<◌, ◌≤◌, ◌⊎◌, ℕ, Bool, true, false, List, length, None, Some}
use Rattle.std.specs.Prelude.{Result, Ok, Err}
use Rattle.std.specs.List.{list_all}
use Rattle.mr_ast.specs.declared.program.Program.{Program}
use Rattle.mr_event.specs.Footprint.{Footprint}
use Rattle.mr_sched.specs.declared.schedule.Entry.{Entry}
use Rattle.mr_sched.specs.declared.schedule.Schedule.{Schedule}
use Rattle.mr_step.specs.PlanRuns.{AreLegal, after, foot_from, has_rule}
use Rattle.mr_step.specs.ThreadSteps.{thread_step}
use Rattle.mr_step.specs.StartRuns.{Legal, entries_fault, program_fault, program_step, run_of, schedule_fault}
use Rattle.mr_step.specs.StartStart.{look_of}
use Rattle.mr_step.specs.declared.fault.StepFault.{StepFault}
use Rattle.mr_step.specs.declared.fault.StepFault.TheVariants as step
use Rattle.mr_step.specs.Answers.{fault_of}
use Rattle.mr_step.specs.Standing.{Standing}
use Rattle.mr_run.specs.declared.fault.RunFault.{RunFault}
use Rattle.mr_run.specs.declared.fault.RunFault.TheVariants.{Broken, Memory}

-- ---- the whole run

-- THE END OF A RUN: the schedule is legal, and a machine that works stands where the program's run under it ends.
pub record IsRun (p : Program) (w : Schedule) (m : Standing) : Type 0 where
  pub legal : Legal p w
  pub working : m.failed ≡ false
  pub look : m.look ≡ look_of p w.start
  pub config : m.config ≡ run_of p w

-- why a run has no end: this rule is the first that the schedule breaks, at this place; memory may always run out
abbrev pub IsFirstFault : Program → Schedule → RunFault → Type 0
IsFirstFault p w (Broken place code earlier) =
    schedule_fault p w ≡ Some (record { line = place; fault = fault_of code earlier })
IsFirstFault p w Memory = Unit {0}

-- the start line of a schedule has place 2, and its first entry place 3
abbrev pub IsPlace : Schedule → ℕ → Type 0
IsPlace w place = (place ≡ 2) ⊎ ((3 ≤ place) × (place < 3 + length w.entries))

-- where a rule is broken, its place is one of the schedule
abbrev pub HasPlace : {A : Type 0} → Schedule → Result A RunFault → Type 0
HasPlace w (Ok x) = Unit {0}
HasPlace w (Err (Broken place code earlier)) = IsPlace w place
HasPlace w (Err Memory) = Unit {0}

-- how a run is answered
abbrev pub RunAnswer : Program → Schedule → Result Standing RunFault → Type 0
RunAnswer p w (Ok m) = IsRun p w m
RunAnswer p w (Err f) = IsFirstFault p w f

-- all entries are of thread 0
abbrev pub are_of_first : List Entry → Bool
are_of_first es = list_all (λ e. e.thread == 0) es

-- ---- its entries

-- a fault of a start or a step, at this place
abbrev pub placed : ℕ → StepFault → RunFault
placed place (step.BadEntry code earlier) = Broken place code earlier
placed place step.Memory = Memory
placed place step.Failed = Memory

-- each entry breaks no rule, and the machine stands behind the last
pub record AreTaken (es : List Entry) (old new : Standing) : Type 0 where
  pub legal : AreLegal (thread_step old.look) old.config es
  pub working : new.failed ≡ false
  pub look : new.look ≡ old.look
  pub config : new.config ≡ after (thread_step old.look) old.config es

-- how entries are answered, the first of which has place 3
abbrev pub EntriesAnswer : List Entry → Standing → Standing → Result (Unit {0}) RunFault → Type 0
EntriesAnswer es old new (Ok u) = AreTaken es old new
EntriesAnswer es old new (Err (Broken place code earlier)) =
    entries_fault old.look old.config 3 es ≡ Some (record { line = place; fault = fault_of code earlier })
EntriesAnswer es old new (Err Memory) = Unit {0}

-- ---- one entry

-- the footprint of its step, where that completes
abbrev pub foot_by : Entry → Standing → List Footprint
foot_by e m = foot_from (thread_step m.look) e.thread e.picks m.config.state

-- the machine made the step of a legal entry, which has a rule
pub record IsMade (e : Entry) (old new : Standing) : Type 0 where
  pub legal : program_fault old.look old.config e ≡ None
  pub has_rule : has_rule (thread_step old.look) e.thread e.picks old.config.state ≡ true
  pub after : new ≡ record { look = old.look; failed = false; config = program_step old.look old.config e }

-- how an entry is answered: its step was made, or it breaks this rule and nothing changed, or memory ran out
abbrev pub EntryAnswer : Entry → Standing → Standing → Result (Unit {0}) StepFault → Type 0
EntryAnswer e old new (Ok u) = IsMade e old new
EntryAnswer e old new (Err (step.BadEntry code earlier)) =
    (program_fault old.look old.config e ≡ Some (fault_of code earlier)) × (new ≡ old)
EntryAnswer e old new (Err step.Memory) = Unit {0}
EntryAnswer e old new (Err step.Failed) = ⊥
