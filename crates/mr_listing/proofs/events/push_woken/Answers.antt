use Rattle.mr_listing.specs.Events.{woken_line}
use Rattle.mr_listing.proofs.Appended.{line_behind}
use Rattle.mr_listing.proofs.events.push_woken.Goals as goal

pub loop-thread-preserved : goal.loop-thread-preserved
loop-thread-preserved c =
    line_behind woken_line c.args.out.now.items c.loop-thread.out.items c.push_note.new.out.items c.args.woken.now
    c.loop-thread.thread-index 0 c.loop-thread-test.true c.loop-thread.invariant c.in_ok-push_note.ensures
