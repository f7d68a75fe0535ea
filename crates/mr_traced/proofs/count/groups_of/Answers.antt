use Rattle.mr_traced.proofs.Common.{seen}
use Rattle.mr_traced.proofs.GroupLaws.{are_groups}
use Rattle.mr_traced.proofs.MapLaws.{groups_are}
use Rattle.mr_traced.proofs.count.groups_of.Goals as goal

pub returns-clause-are : goal.returns-clause-are
returns-clause-are c =
    are_groups (seen c.args.shown.now) c.in_ok-counts.counts c.in_ok-groups.groups.items c.in_ok-counts.ensures
    c.in_ok-groups.ensures.found c.in_ok-groups.ensures.ordered c.in_ok-groups.ensures.values

pub returns-clause-groups : goal.returns-clause-groups
returns-clause-groups c =
    groups_are (seen c.args.shown.now) c.in_ok-counts.counts c.in_ok-groups.groups.items c.in_ok-counts.ensures
    c.in_ok-groups.ensures.ordered c.in_ok-groups.ensures.values
