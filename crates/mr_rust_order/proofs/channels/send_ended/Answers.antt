use Rattle.mr_rust_order.proofs.Common.{ℕ, sym, ◌∙◌, subst, ◌==◌, on_ok_weaker, AreSent}
use Rattle.mr_rust_order.proofs.ChannelLaws.{ended_none, ended_sent}
use Rattle.mr_rust_order.proofs.channels.send_ended.Goals as goal

pub returns-then-not-is_over : goal.returns-then-not-is_over
returns-then-not-is_over c = ended_none c.args.ended.now.items c.args.clock.now c.args.step.now (sym c.is_over.ensures ∙ c.if-not-is_over.true)

pub returns : goal.returns
returns c =
    let old = c.args.ended.now.items in
    let new = c.send.new.clocks.items in
    let clock = c.args.clock.now in
    on_ok_weaker c.send.result
    (λ s. ended_sent old new clock c.args.step.now (sym c.is_over.ensures ∙ c.if-not-is_over.false) (subst (λ (t : ℕ). AreSent old clock (λ y. t == y) new) c.thread.ensures s)) c.send.ensures
