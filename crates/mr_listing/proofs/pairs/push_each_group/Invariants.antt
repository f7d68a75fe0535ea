use Rattle.mr_listing.proofs.Common.{◌≡◌, ◌++◌, flat_map, take, seen}
use Rattle.mr_listing.specs.Races.{group_line}
use Rattle.mr_listing.proofs.pairs.push_each_group.Given as goal

-- the groups before this one have their lines
abbrev pub invariant-loop-group : goal.invariant-loop-group
invariant-loop-group l =
    l.out.items ≡ l.fn.out.items ++ flat_map (group_line (seen l.shown)) (take l.group-index l.groups)
