use Rattle.mr_clocks.proofs.Common.{IsMemo, no_memo}
use Rattle.mr_clocks.proofs.Each.{each_set}
use Rattle.mr_clocks.proofs.memos.catch_up_at.Goals as goal

pub returns-in_err-catch_up-clause-memos : goal.returns-in_err-catch_up-clause-memos
returns-in_err-catch_up-clause-memos c =
    each_set (IsMemo c.args.rows.now) no_memo c.catch_up.new.self c.args.memos.now.items c.args.slot c.requires.slot c.requires.memos c.catch_up.ensures.memo

pub returns-in_ok-catch_up-clause-memos : goal.returns-in_ok-catch_up-clause-memos
returns-in_ok-catch_up-clause-memos c =
    each_set (IsMemo c.args.rows.now) no_memo c.catch_up.new.self c.args.memos.now.items c.args.slot c.requires.slot c.requires.memos c.catch_up.ensures.memo
