use Rattle.mr_rust_order.proofs.ChannelLaws.{sent_more, sent_none}
use Rattle.mr_rust_order.proofs.Common.{List, ℕ, subst, arith, ◌==◌, list_any, take_all, AreSent}
use Rattle.mr_rust_order.proofs.channels.send_woken.Goals as goal

pub loop-i-init : goal.loop-i-init
loop-i-init c = sent_none c.args.threads.now.items c.args.clock.now

pub loop-i-preserved : goal.loop-i-preserved
loop-i-preserved c =
    sent_more c.args.threads.now.items c.loop-i.threads.items c.send.new.clocks.items c.args.clock.now c.args.woken.now c.loop-i.i c.loop-i-test.true c.loop-i.invariant c.in_ok-send.ensures

pub returns : goal.returns
returns c =
    subst (λ (l : List ℕ). AreSent c.args.threads.now.items c.args.clock.now (λ y. list_any (λ t. t == y) l) c.loop-i.threads.items)
    (take_all c.loop-i.i c.args.woken.now (omega arith)) c.loop-i.invariant
