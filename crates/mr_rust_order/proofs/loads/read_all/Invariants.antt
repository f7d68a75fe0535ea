use Rattle.mr_rust_order.proofs.Common.{take, AreJoined, IsReadOf, AreMemos}
use Rattle.mr_rust_order.proofs.loads.read_all.Given as goal

abbrev pub invariant-loop-y : goal.invariant-loop-y
invariant-loop-y l =
    record { memos : AreMemos l.rows l.memos.items; joined : AreJoined l.rows (IsReadOf l.rows (take l.y l.accesses)) l.initial.clock l.clock }
