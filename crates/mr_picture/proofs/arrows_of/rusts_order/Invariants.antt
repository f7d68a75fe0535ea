use Rattle.mr_picture.proofs.Common.{Tracks}
use Rattle.mr_picture.proofs.arrows_of.rusts_order.Given as goal

-- the steps before this one are known
abbrev pub invariant-loop-step : goal.invariant-loop-step
invariant-loop-step l = Tracks l.run l.step l.rust
