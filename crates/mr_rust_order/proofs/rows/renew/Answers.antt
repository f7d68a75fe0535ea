use Rattle.mr_rust_order.proofs.Common.{refl, arith}
use Rattle.mr_rust_order.proofs.rows.renew.Goals as goal

pub returns-clause-put : goal.returns-clause-put
returns-clause-put c = record { made = (0, omega arith, refl); of_thread = refl; last = refl; kept = c.in_ok-keep_clock.ensures }
