use Rattle.mr_rust_order.proofs.MemoLaws.{AreFresh}
use Rattle.mr_rust_order.proofs.memos.no_memos.Given as goal

abbrev pub invariant-loop-k : goal.invariant-loop-k
invariant-loop-k l = AreFresh l.memos.items l.k
