use Rattle.std.proofs.Common.{◌≡◌, drop}
use Rattle.mr_base.specs.Pairs.{some_next, same_pair}
use Rattle.mr_base.proofs.pairs.any_equal_next.Given as goal

abbrev pub invariant-loop-pair : goal.invariant-loop-pair
invariant-loop-pair l = some_next same_pair l.fn.first l.pairs ≡ some_next same_pair l.last (drop l.pair-index l.pairs)
