use Rattle.mr_rust_order.proofs.Common.{[], ◌∙◌, refl, get_or_read}
use Rattle.mr_rust_order.proofs.ChannelLaws.{kept_set}
use Rattle.mr_rust_order.proofs.channels.take_out.Goals as goal

pub returns-clause-clock : goal.returns-clause-clock
returns-clause-clock c =
    let mid = c.extend_past.new.clocks.items in
    c.replace.ensures.value ∙ get_or_read mid c.args.x c.index_mut-channel.result.now c.in_ok-extend_past.ensures.long c.index_mut-channel.ensures.value [] ∙ c.in_ok-extend_past.ensures.same c.args.x

pub returns-clause-others : goal.returns-clause-others
returns-clause-others c = kept_set c.args.clocks.now.items c.extend_past.new.clocks.items _ c.args.x c.replace.new.dest c.in_ok-extend_past.ensures.same refl
