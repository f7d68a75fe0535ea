use Rattle.std.proofs.Common.{◌∙◌}
use Rattle.mr_base.proofs.Twins.{are_meeting_sorted}
use Rattle.mr_base.proofs.pairs.any_meeting.Goals as goal

pub returns : goal.returns
returns c = c.any_meeting_neighbours.ensures ∙ are_meeting_sorted _ _ c.sort_unstable.ensures.permutation c.requires c.sort_unstable.ensures.sorted
