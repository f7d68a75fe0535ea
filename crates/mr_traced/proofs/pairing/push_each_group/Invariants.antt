use Rattle.mr_traced.proofs.Common.{◌≡◌, ◌++◌, flat_map, take, group_text, seen}
use Rattle.mr_traced.proofs.pairing.push_each_group.Given as goal

-- the groups before this one are written
abbrev pub invariant-loop-group : goal.invariant-loop-group
invariant-loop-group l =
    l.out.items ≡ l.fn.out.items ++ flat_map (group_text (seen l.shown)) (take l.group-index l.groups)
