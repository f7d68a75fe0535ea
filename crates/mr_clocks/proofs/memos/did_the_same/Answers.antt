use Rattle.mr_clocks.proofs.MemoLaws.{equal_same}
use Rattle.mr_clocks.proofs.memos.did_the_same.Goals as goal

pub returns-then-are_equal : goal.returns-then-are_equal
returns-then-are_equal c = λ _. equal_same c.args.one.now c.args.other.now (c.are_equal.ensures c.if-are_equal.true)
