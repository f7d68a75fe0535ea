use Rattle.mr_frame.proofs.Common.{◌≡◌, drop, world_of, freed_each}
use Rattle.mr_frame.proofs.ends.free_each.Given as goal

abbrev pub invariant-loop-k : goal.invariant-loop-k
invariant-loop-k l = freed_each l.locals l.storage (world_of l.fn.s) ≡ freed_each (drop l.k l.locals) (drop l.k l.storage) (world_of l.s)
