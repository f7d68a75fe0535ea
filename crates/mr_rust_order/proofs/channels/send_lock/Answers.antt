use Rattle.mr_rust_order.proofs.Common.{OnOk, ◌∙◌, subst, Event, AreSent, releases}
use Rattle.mr_rust_order.proofs.ChannelLaws.{released_none}
use Rattle.mr_rust_order.proofs.channels.send_lock.Goals as goal

pub returns-in-Release : goal.returns-in-Release
returns-in-Release c =
    subst (λ (e : Event). OnOk c.send.result (AreSent c.args.locks.now.items c.args.clock.now (releases e) c.send.new.clocks.items)) c.in-Release.ensures c.send.ensures

pub returns-in_default : goal.returns-in_default
returns-in_default c = released_none c.args.locks.now.items c.args.clock.now c.args.step.now.event (λ lock e. c.in_default.not-Release lock (c.event.ensures ∙ e))
