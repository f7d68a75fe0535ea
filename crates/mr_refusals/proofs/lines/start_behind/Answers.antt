use Rattle.std.proofs.Common.{◌∙◌, arith, length}
use Rattle.mr_refusals.proofs.LineLaws.{feeds_end, feeds_next}
use Rattle.mr_refusals.proofs.lines.start_behind.Goals as goal

pub loop-at-preserved : goal.loop-at-preserved
loop-at-preserved c =
    feeds_next c.args.text.now c.loop-at.at c.loop-at.left c.left_behind-left.result c.loop-at-test.true
    (omega (arith, c.if-left-eq0.false)) c.left_behind-left.ensures
    ∙ c.loop-at.invariant

pub returns-clause-behind : goal.returns-clause-behind
returns-clause-behind c =
    feeds_end c.args.text.now c.loop-at.at c.loop-at.left (length c.args.text.now) _ c.loop-at-test.false (omega arith)
    c.loop-at.invariant
