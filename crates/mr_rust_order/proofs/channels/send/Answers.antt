use Rattle.mr_rust_order.proofs.Common.{[], set, refl, get_or_read, on_ok_weaker}
use Rattle.mr_rust_order.proofs.ChannelLaws.{sent_one}
use Rattle.mr_rust_order.proofs.channels.send.Goals as goal

pub returns : goal.returns
returns c =
    let mid = c.extend_past.new.clocks.items in
    let channel = c.index_mut-channel.result.now in
    let lt = c.in_ok-extend_past.ensures.long in
    on_ok_weaker c.join.result
    (λ j.
    sent_one c.args.clocks.now.items mid (set mid c.args.x c.join.new.self) c.args.x c.args.clock.now channel c.join.new.self lt c.in_ok-extend_past.ensures.same
    (get_or_read mid c.args.x channel lt c.index_mut-channel.ensures.value []) j refl)
    c.join.ensures
