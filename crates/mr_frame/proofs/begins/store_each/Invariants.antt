use Rattle.mr_frame.proofs.Common.{world_of, ◌+◌, drop}
use Rattle.mr_frame.proofs.BeginSteps.{Storing}
use Rattle.mr_frame.proofs.begins.store_each.Given as goal

-- these arguments are not stored still
abbrev pub invariant-loop-k : goal.invariant-loop-k
invariant-loop-k l = Storing l.function (drop l.k l.names) (drop (l.k + 1) l.pointers) (drop l.k l.args) (drop 1 l.pointers) l.args (world_of l.fn.s) (world_of l.s)
