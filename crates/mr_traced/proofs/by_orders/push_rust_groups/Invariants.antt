use Rattle.mr_traced.proofs.Common.{◌≡◌, ◌++◌, flat_map, take, seen}
use Rattle.mr_traced.specs.Orders.{rust_text}
use Rattle.mr_traced.proofs.by_orders.push_rust_groups.Given as goal

-- the groups before this one are written
abbrev pub invariant-loop-group : goal.invariant-loop-group
invariant-loop-group l =
    l.out.items ≡ l.fn.out.items ++ flat_map (rust_text l.told (seen l.shown)) (take l.group-index l.groups)
