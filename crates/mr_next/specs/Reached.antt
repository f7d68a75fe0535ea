-- How far a schedule goes: where the machine stands behind its last entry, or in front of the first that breaks a rule.
use Rattle.std.specs.Prelude.{◌≡◌, ◌-◌, List, take, Option, None, Some, slice_get}
use Rattle.std.specs.Option.{option_map}
use Rattle.mr_ast.specs.declared.program.Program.{Program}
use Rattle.mr_sched.specs.declared.schedule.Entry.{Entry}
use Rattle.mr_sched.specs.declared.schedule.Schedule.{Schedule}
use Rattle.mr_step.specs.StartRuns.{PlacedFault, entries_fault, schedule_fault}
use Rattle.mr_step.specs.StartStart.{start_fault}
use Rattle.mr_step.specs.Answers.{fault_of}
use Rattle.mr_step.specs.Standing.{Standing}
use Rattle.mr_run.specs.Runs.{AreTaken, IsRun}
use Rattle.mr_run.specs.declared.fault.RunFault.{RunFault}
use Rattle.mr_run.specs.declared.fault.RunFault.TheVariants as run
use Rattle.mr_next.specs.Culprits.{culprit_of}
use Rattle.mr_next.specs.declared.broken.Broken.{Broken}
use Rattle.mr_next.specs.declared.reaching.Reached.{Reached}

-- the entries in front of a fault; the first has place 3
abbrev pub in_front : Option PlacedFault → List Entry → List Entry
in_front None es = es
in_front (Some f) es = take (f.line - 3) es

-- a schedule up to its first broken rule
abbrev pub legal_front : Schedule → Option PlacedFault → Schedule
legal_front w fault = record { start = w.start; entries = in_front fault w.entries }

-- a broken rule, as the code tells it
abbrev pub placed_of : Broken → PlacedFault
placed_of b = record { line = b.place; fault = fault_of b.code b.earlier }

-- the pick that is told is the one by which the entry breaks the rule where the machine stands
abbrev pub IsCulprit : List Entry → Standing → Option Broken → Type 0
IsCulprit es m None = Unit {0}
IsCulprit es m (Some b) =
    (e : Entry) → slice_get es (b.place - 3) ≡ Some e → b.culprit ≡ culprit_of m.look m.config e b.code

-- an error is the rule that the start line breaks, which has place 2, or want of memory
abbrev pub IsOfStart : Program → Schedule → RunFault → Type 0
IsOfStart p w (run.Broken place code earlier) = (place ≡ 2) × (start_fault p w.start ≡ Some (fault_of code earlier))
IsOfStart p w run.Memory = Unit {0}

-- HOW FAR A SCHEDULE GOES: the first rule that it breaks, if it breaks one, the machine of the run up to there, and the
-- pick that breaks the rule
pub record GoesTo (p : Program) (w : Schedule) (r : Reached) : Type 0 where
  pub fault : option_map placed_of r.broken ≡ schedule_fault p w
  pub front : IsRun p (legal_front w (schedule_fault p w)) r.machine
  pub culprit : IsCulprit w.entries r.machine r.broken

-- the same of entries, as the code goes
pub record IsReached (es : List Entry) (old new : Standing) (broken : Option Broken) : Type 0 where
  pub fault : option_map placed_of broken ≡ entries_fault old.look old.config 3 es
  pub taken : AreTaken (in_front (entries_fault old.look old.config 3 es) es) old new
  pub culprit : IsCulprit es new broken
