use Rattle.mr_rust_order.proofs.Common.{AreJoined, takes}
use Rattle.mr_rust_order.proofs.TopLaws.{HasPassed}
use Rattle.mr_rust_order.proofs.loads.take_all.Given as goal

abbrev pub invariant-loop-z : goal.invariant-loop-z
invariant-loop-z l = AreJoined l.rows (HasPassed l.rows (λ r. takes r l.byte l.latest) l.found l.z) l.initial.clock l.clock
