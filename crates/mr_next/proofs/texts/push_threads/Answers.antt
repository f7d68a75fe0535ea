use Rattle.mr_next.proofs.Common.{◌∙◌, arith, appended_next, numbered_thread}
use Rattle.mr_next.proofs.texts.push_threads.Goals as goal

pub loop-at-preserved : goal.loop-at-preserved
loop-at-preserved c =
    c.in_ok-push_listed.ensures
    ∙ appended_next (numbered_thread c.args.threads.now) c.args.out.now.items c.loop-at.out.items 0 c.loop-at.at
    c.loop-at.at (omega arith) c.loop-at.invariant
