use Rattle.mr_rust_order.proofs.Common.{is_partner, IsTop}
use Rattle.mr_rust_order.proofs.TopLaws.{HasPassed}
use Rattle.mr_rust_order.proofs.partners.best_by.Given as goal

abbrev pub invariant-loop-z : goal.invariant-loop-z
invariant-loop-z l = IsTop l.rows (HasPassed l.rows (is_partner l.thread l.access l.clock) l.found l.z) l.best
