use Rattle.mr_gen.proofs.Common.{◌≡◌, ◌-◌, ◌++◌, map, range_with_len, spawn_block}
use Rattle.mr_gen.proofs.starter.push_spawns.Given as goal

-- the workers before this one have their blocks
abbrev pub invariant-loop-k : goal.invariant-loop-k
invariant-loop-k l = l.blocks ≡ l.fn.blocks ++ map spawn_block (range_with_len 1 (l.k - 1))
