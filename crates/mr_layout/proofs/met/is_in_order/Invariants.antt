use Rattle.mr_layout.proofs.Common.{◌≡◌, drop, is_in_order, is_in_order_after}
use Rattle.mr_layout.proofs.met.is_in_order.Given as goal

abbrev pub invariant-loop-range : goal.invariant-loop-range
invariant-loop-range l = is_in_order l.ranges ≡ is_in_order_after l.low (drop l.range-index l.ranges)
