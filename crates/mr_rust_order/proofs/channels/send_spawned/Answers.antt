use Rattle.mr_rust_order.proofs.Common.{OnOk, sym, subst, Event, spawns, AreSent}
use Rattle.mr_rust_order.proofs.ChannelLaws.{spawned_none}
use Rattle.mr_rust_order.proofs.channels.send_spawned.Goals as goal

pub returns-in-Spawn : goal.returns-in-Spawn
returns-in-Spawn c =
    subst (λ (e : Event). OnOk c.send.result (AreSent c.args.threads.now.items c.args.clock.now (spawns e) c.send.new.clocks.items)) (sym c.in-Spawn.is) c.send.ensures

pub returns-in_default : goal.returns-in_default
returns-in_default c = spawned_none c.args.threads.now.items c.args.clock.now c.args.event c.in_default.not-Spawn
