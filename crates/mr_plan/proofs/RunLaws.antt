-- What runs keep, over any language of steps.
use Rattle.mr_plan.proofs.Common.{ℕ, ◌+◌, ◌≤◌, arith, List, Some, None, Option}
use Rattle.mr_sched.specs.declared.schedule.Entry.{Entry}
use Rattle.mr_plan.specs.Machine.{State, Language, Bare, Completed, Stops, IllFormedStep, bare}
use Rattle.mr_plan.specs.Runs.{Config, after_bare, stepped_from, machine_step}

-- ---- how many steps completed

completed_bare : {L : Type 0} (step : Language L) (c : Config L) (b : Bare L) → (after_bare step c b).completed ≤ c.completed + 1
completed_bare step c (Completed n s) = omega arith
completed_bare step c (Stops v about) = omega arith
completed_bare step c IllFormedStep = omega arith

completed_from : {L : Type 0} (step : Language L) (c : Config L) (t : ℕ) (picks : List ℕ) (s : Option (State L))
    → (stepped_from step c t picks s).completed ≤ c.completed + 1
completed_from step c t picks None = omega arith
completed_from step c t picks (Some s) = completed_bare step c (bare step s t picks)

-- a step completes one step at most
pub completed_by_step : {L : Type 0} (step : Language L) (c : Config L) (e : Entry) → (machine_step step c e).completed ≤ c.completed + 1
unfolding machine_step
completed_by_step step c e = completed_from step c e.thread e.picks c.state
