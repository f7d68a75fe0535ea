use Rattle.mr_picture.proofs.Common.{◌≡◌, drop, ends, first_that}
use Rattle.mr_picture.proofs.lanes.ending.Given as goal

-- none so far ended it
abbrev pub invariant-loop-step : goal.invariant-loop-step
invariant-loop-step l =
    first_that (ends l.feet l.thread) l.steps ≡ first_that (ends l.feet l.thread) (drop l.step-index l.steps)
