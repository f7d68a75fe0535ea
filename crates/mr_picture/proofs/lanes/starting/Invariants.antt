use Rattle.mr_picture.proofs.Common.{◌≡◌, drop, first_that, starts}
use Rattle.mr_picture.proofs.lanes.starting.Given as goal

-- none so far started it
abbrev pub invariant-loop-step : goal.invariant-loop-step
invariant-loop-step l =
    first_that (starts l.thread) l.steps ≡ first_that (starts l.thread) (drop l.step-index l.steps)
