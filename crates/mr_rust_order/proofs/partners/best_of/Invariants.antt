use Rattle.mr_rust_order.proofs.Common.{take, AreMemos, IsPartnerBy, IsTop}
use Rattle.mr_rust_order.proofs.partners.best_of.Given as goal

abbrev pub invariant-loop-y : goal.invariant-loop-y
invariant-loop-y l =
    record { memos : AreMemos l.rows l.memos.items; top : IsTop l.rows (IsPartnerBy l.rows (take l.y l.accesses) l.step.thread l.clock) l.best }
