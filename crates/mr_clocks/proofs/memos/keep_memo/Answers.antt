use Rattle.mr_clocks.proofs.Common.{arith, get_or-set_same, IsMemo, no_memo}
use Rattle.mr_clocks.proofs.Each.{each_set}
use Rattle.mr_clocks.proofs.memos.keep_memo.Goals as goal

pub returns-clause-memos : goal.returns-clause-memos
returns-clause-memos c = λ rows all own. each_set (IsMemo rows) no_memo c.args.memo c.args.memos.now.items _ (omega arith) all own

pub returns-clause-here : goal.returns-clause-here
returns-clause-here c = get_or-set_same c.args.memos.now.items _ c.args.memo no_memo (omega arith)
