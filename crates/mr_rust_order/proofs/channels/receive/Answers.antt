use Rattle.mr_rust_order.proofs.Common.{List, ℕ, OnOk, subst, arith, IsJoin}
use Rattle.mr_rust_order.proofs.ChannelLaws.{join_past}
use Rattle.mr_rust_order.proofs.channels.receive.Goals as goal

pub returns-then-x-clocks : goal.returns-then-x-clocks
returns-then-x-clocks c = join_past c.args.clocks.now c.args.x c.args.clock.now (omega arith)

pub returns : goal.returns
returns c = subst (λ (l : List ℕ). OnOk c.join.result (IsJoin c.args.clock.now l c.join.new.self)) c.lent.ensures c.join.ensures
