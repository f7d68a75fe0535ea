use Rattle.std.proofs.Common.{◌≡◌, drop}
use Rattle.mr_base.specs.Pairs.{some_next, are_meeting}
use Rattle.mr_base.proofs.pairs.any_meeting_next.Given as goal

abbrev pub invariant-loop-range : goal.invariant-loop-range
invariant-loop-range l = some_next are_meeting l.fn.first l.ranges ≡ some_next are_meeting l.last (drop l.range-index l.ranges)
