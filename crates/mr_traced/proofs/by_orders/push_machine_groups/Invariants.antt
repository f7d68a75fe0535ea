use Rattle.mr_traced.proofs.Common.{◌≡◌, ◌++◌, flat_map, take, machine_text, seen}
use Rattle.mr_traced.proofs.by_orders.push_machine_groups.Given as goal

-- the groups before this one are written
abbrev pub invariant-loop-group : goal.invariant-loop-group
invariant-loop-group l =
    l.out.items ≡ l.fn.out.items ++ flat_map (machine_text (seen l.shown)) (take l.group-index l.groups)
