use Rattle.mr_rust_order.proofs.Common.{refl, arith}
use Rattle.mr_rust_order.proofs.MemoLaws.{fresh_memos, fresh_more, fresh_none}
use Rattle.mr_rust_order.proofs.memos.no_memos.Goals as goal

pub loop-k-init : goal.loop-k-init
loop-k-init c = fresh_none c.new-memos.result.items c.new-memos.ensures.items

pub loop-k-preserved : goal.loop-k-preserved
loop-k-preserved c = fresh_more c.loop-k.memos.items c.push.new.self.items c.loop-k.k _ c.loop-k.invariant refl c.in_ok-push.ensures.items

pub returns : goal.returns
returns c = fresh_memos c.loop-k.memos.items c.loop-k.k (omega arith) c.loop-k.invariant
