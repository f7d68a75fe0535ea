-- What the code tells of what an intrinsic needs before it acts.
use Rattle.std.specs.Prelude.{◌≡◌, false, List, [], ◌∷◌, Option, None, Some, Result, Ok, Err}
use Rattle.mr_base.specs.declared.reason.Reason.{Reason}
use Rattle.mr_sched.specs.declared.schedule.Ask.{Ask}
use Rattle.mr_base.specs.Stops.{plainly, speaks}
use Rattle.mr_base.specs.Script.{Outcome, Refused, Went}
use Rattle.mr_plan.specs.Machine.{Creation as Created, CreatesLock, CreatesNothing, CreatesThread, Plan}
use Rattle.mr_plan.specs.Notes.{Notes}
use Rattle.mr_plan.specs.Queries.{Shared, StepScript}
use Rattle.mr_intr.specs.Operations.{Result as Given}
use Rattle.mr_intr.specs.declared.need.Creation.{Creation}
use Rattle.mr_intr.specs.declared.need.Creation.TheVariants.{Lock, Nothing, Thread}
use Rattle.mr_intr.specs.declared.need.Needs.{Needs}

-- what is created
abbrev pub creation_of : Creation → Created
creation_of Nothing = CreatesNothing
creation_of Thread = CreatesThread
creation_of Lock = CreatesLock

-- one pick or none
abbrev pub asks_of : Option Ask → List Ask
asks_of None = []
asks_of (Some ask) = ask ∷ []

-- A plan that is made, and what it creates and asks for.
pub record IsPlanned (n : Needs) (o : Outcome (Plan (StepScript Given)) (Shared × Notes)) : Type 0 where
  pub plan : Plan (StepScript Given)
  pub left : Shared × Notes
  pub went : o ≡ Went plan left
  pub creates : plan.creates ≡ creation_of n.creates
  pub asks : plan.asks ≡ asks_of n.ask

-- what the code told is what the run comes to: a plan, or the reason for which none is made, which speaks of no bytes
abbrev pub TellsNeeds : Result Needs Reason → Outcome (Plan (StepScript Given)) (Shared × Notes) → Type 0
TellsNeeds (Ok n) o = IsPlanned n o
TellsNeeds (Err r) o = (o ≡ Refused (plainly r)) × (speaks r ≡ false)
