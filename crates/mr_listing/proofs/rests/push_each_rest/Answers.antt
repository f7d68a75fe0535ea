use Rattle.mr_listing.proofs.Common.{◌∙◌, arith, seen, appended_next}
use Rattle.mr_listing.specs.Rests.{numbered_rest}
use Rattle.mr_listing.proofs.rests.push_each_rest.Goals as goal

pub loop-thread-preserved : goal.loop-thread-preserved
loop-thread-preserved c =
    c.in_ok-push_numbered_rest.ensures
    ∙ appended_next (numbered_rest (seen c.args.shown.now)) c.args.out.now.items c.loop-thread.out.items 0
    c.loop-thread.thread c.loop-thread.thread (omega arith) c.loop-thread.invariant
