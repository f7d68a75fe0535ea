use Rattle.mr_listing.proofs.GroupLaws.{ranked_permutes}
use Rattle.mr_listing.proofs.OnceLaws.{in_one_group}
use Rattle.mr_listing.proofs.law.races_are_grouped.Goals as goal

pub returns-clause-order : goal.returns-clause-order
returns-clause-order c = ranked_permutes

pub returns-clause-once : goal.returns-clause-once
returns-clause-once c = in_one_group
