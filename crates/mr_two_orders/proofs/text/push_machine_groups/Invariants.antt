use Rattle.mr_two_orders.proofs.Common.{◌≡◌, ◌++◌, flat_map, take, seen, machine_text}
use Rattle.mr_two_orders.proofs.text.push_machine_groups.Given as goal

-- the groups before this one are written, where they are alone
abbrev pub invariant-loop-group : goal.invariant-loop-group
invariant-loop-group l =
    l.out.items ≡ l.fn.out.items ++ flat_map (machine_text (seen l.shown)) (take l.group-index l.groups)
