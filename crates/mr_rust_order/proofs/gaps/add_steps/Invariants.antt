use Rattle.mr_rust_order.proofs.Common.{Tracks}
use Rattle.mr_rust_order.proofs.gaps.add_steps.Given as goal

abbrev pub invariant-loop-k : goal.invariant-loop-k
invariant-loop-k l = Tracks l.run l.k l.analysis
