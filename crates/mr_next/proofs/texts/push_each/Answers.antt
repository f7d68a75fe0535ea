use Rattle.mr_next.proofs.Common.{◌∙◌, arith, appended_next, numbered_text}
use Rattle.mr_next.proofs.texts.push_each.Goals as goal

pub loop-thread-preserved : goal.loop-thread-preserved
loop-thread-preserved c =
    c.in_ok-push_told.ensures
    ∙ appended_next (numbered_text c.args.p.now c.args.new c.args.positions.now c.args.prospects.now) c.args.out.now.items
    c.loop-thread.out.items 0 c.loop-thread.thread c.loop-thread.thread (omega arith) c.loop-thread.invariant
