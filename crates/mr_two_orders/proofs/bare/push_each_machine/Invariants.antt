use Rattle.mr_two_orders.proofs.Common.{◌≡◌, ◌++◌, flat_map, take}
use Rattle.mr_two_orders.specs.Bare.{bare_machine}
use Rattle.mr_two_orders.proofs.bare.push_each_machine.Given as goal

-- the races before this one are written
abbrev pub invariant-loop-pair : goal.invariant-loop-pair
invariant-loop-pair l = l.out.items ≡ l.fn.out.items ++ flat_map (bare_machine l.run l.rust) (take l.pair-index l.pairs)
