use Rattle.mr_rust_order.proofs.Common.{refl}
use Rattle.mr_rust_order.proofs.ChannelLaws.{kept_set, put_here}
use Rattle.mr_rust_order.proofs.channels.put_back.Goals as goal

pub returns-clause-clock : goal.returns-clause-clock
returns-clause-clock c = put_here c.extend_past.new.clocks.items _ c.args.x c.args.clock c.in_ok-extend_past.ensures.long refl

pub returns-clause-others : goal.returns-clause-others
returns-clause-others c = kept_set c.args.clocks.now.items c.extend_past.new.clocks.items _ c.args.x c.args.clock c.in_ok-extend_past.ensures.same refl
