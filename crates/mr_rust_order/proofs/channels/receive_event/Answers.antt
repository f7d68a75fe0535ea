use Rattle.mr_rust_order.proofs.Common.{OnOk, sym, subst, Event, told_by, IsJoin}
use Rattle.mr_rust_order.proofs.ChannelLaws.{told_none}
use Rattle.mr_rust_order.proofs.channels.receive_event.Goals as goal

pub returns-in-Acquire : goal.returns-in-Acquire
returns-in-Acquire c =
    subst (λ (e : Event). OnOk c.receive.result (IsJoin c.args.clock.now (told_by e c.args.locks.now c.args.ended.now) c.receive.new.clock)) (sym c.in-Acquire.is) c.receive.ensures

pub returns-in-Join : goal.returns-in-Join
returns-in-Join c =
    subst (λ (e : Event). OnOk c.receive-in-Join.result (IsJoin c.args.clock.now (told_by e c.args.locks.now c.args.ended.now) c.receive-in-Join.new.clock)) (sym c.in-Join.is) c.receive-in-Join.ensures

pub returns-in_default : goal.returns-in_default
returns-in_default c = told_none c.args.locks.now c.args.ended.now c.args.clock.now c.args.event c.in_default.not-Acquire c.in_default.not-Join
