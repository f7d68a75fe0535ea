use Rattle.mr_frame.proofs.Common.{◌+◌, drop, world_of}
use Rattle.mr_frame.proofs.BeginSteps.{Allocating}
use Rattle.mr_frame.proofs.begins.allocate_each.Given as goal

-- these arguments are without storage still
abbrev pub invariant-loop-k : goal.invariant-loop-k
invariant-loop-k l = Allocating l.function (drop l.k l.names) (drop (l.k + 1) l.picks) l.picks (world_of l.fn.s) l.out.items (world_of l.s)
