use Rattle.mr_rust_order.proofs.Common.{List, ℕ, subst, ◌==◌, list_any, on_ok_weaker, Event, spawns, AreSent}
use Rattle.mr_rust_order.proofs.ChannelLaws.{sent_threads}
use Rattle.mr_rust_order.proofs.channels.send_threads.Goals as goal

pub returns : goal.returns
returns c =
    let old = c.args.threads.now.items in
    let mid = c.send_woken.new.threads.items in
    let new = c.send_spawned.new.threads.items in
    let clock = c.args.clock.now in
    let one = subst (λ (l : List ℕ). AreSent old clock (λ y. list_any (λ t. t == y) l) mid) c.woken.ensures c.in_ok-send_woken.ensures in
    on_ok_weaker c.send_spawned.result
    (λ two. sent_threads old mid new clock c.args.step.now one (subst (λ (e : Event). AreSent mid clock (spawns e) new) c.event.ensures two)) c.send_spawned.ensures
