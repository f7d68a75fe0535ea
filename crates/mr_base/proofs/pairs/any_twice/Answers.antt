use Rattle.std.proofs.Common.{◌∙◌}
use Rattle.mr_base.proofs.Twins.{same_pair_sorted}
use Rattle.mr_base.proofs.pairs.any_twice.Goals as goal

pub returns : goal.returns
returns c = c.any_equal_neighbours.ensures ∙ same_pair_sorted _ _ c.sort_unstable.ensures.permutation c.sort_unstable.ensures.sorted
