use Rattle.mr_two_orders.proofs.Common.{◌≡◌, ◌++◌, flat_map, take}
use Rattle.mr_two_orders.specs.Bare.{bare_rust}
use Rattle.mr_two_orders.proofs.bare.push_each_rust.Given as goal

-- the races before this one are written
abbrev pub invariant-loop-pair : goal.invariant-loop-pair
invariant-loop-pair l = l.out.items ≡ l.fn.out.items ++ flat_map (bare_rust l.told l.run l.machine) (take l.pair-index l.pairs)
