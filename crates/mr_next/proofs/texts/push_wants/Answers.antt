use Rattle.mr_next.proofs.Common.{◌∙◌, arith, appended_next, numbered_want}
use Rattle.mr_next.proofs.texts.push_wants.Goals as goal

pub loop-at-preserved : goal.loop-at-preserved
loop-at-preserved c =
    c.in_ok-push_numbered_want.ensures
    ∙ appended_next (numbered_want c.args.p.now c.args.here c.args.names.now c.args.wants.now) c.args.out.now.items
    c.loop-at.out.items 0 c.loop-at.at c.loop-at.at (omega arith) c.loop-at.invariant
