use Rattle.mr_listing.proofs.Appended.{line_behind}
use Rattle.mr_picture.specs.Deeds.{wake_deed}
use Rattle.mr_picture.proofs.deeds.push_woken.Goals as goal

pub loop-thread-preserved : goal.loop-thread-preserved
loop-thread-preserved c =
    line_behind wake_deed c.args.out.now.items c.loop-thread.out.items c.push_numbered.new.out.items c.args.woken.now
    c.loop-thread.thread-index 0 c.loop-thread-test.true c.loop-thread.invariant c.in_ok-push_numbered.ensures
