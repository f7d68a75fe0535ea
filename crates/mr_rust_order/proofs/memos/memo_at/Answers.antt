use Rattle.mr_rust_order.proofs.Common.{get_or_read}
use Rattle.mr_rust_order.proofs.memos.memo_at.Goals as goal

pub returns : goal.returns
returns c = λ d. get_or_read c.args.memos.now c.args.slot c.index-memos-slot.result c.requires c.index-memos-slot.is d
