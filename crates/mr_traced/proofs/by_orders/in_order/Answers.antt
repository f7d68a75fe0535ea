use Rattle.mr_traced.proofs.Common.{◌∙◌, ap, length, seen}
use Rattle.mr_listing.specs.Races.{by_count}
use Rattle.mr_traced.proofs.GroupLaws.{few_groups}
use Rattle.mr_traced.proofs.by_orders.in_order.Goals as goal

pub returns : goal.returns
returns c =
    let s = seen c.args.shown.now in
    c.in_ok-rank_by_count.ensures (length s.races) (few_groups s c.in_ok-groups.groups.items c.in_ok-groups.ensures.are)
    ∙ ap (by_count (length s.races)) c.in_ok-groups.ensures.groups
