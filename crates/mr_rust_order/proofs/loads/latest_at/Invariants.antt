use Rattle.mr_rust_order.proofs.Common.{counts, IsTop}
use Rattle.mr_rust_order.proofs.TopLaws.{HasPassed}
use Rattle.mr_rust_order.proofs.loads.latest_at.Given as goal

abbrev pub invariant-loop-z : goal.invariant-loop-z
invariant-loop-z l = IsTop l.rows (HasPassed l.rows (λ r. counts l.every r.range l.byte) l.found l.z) l.latest
