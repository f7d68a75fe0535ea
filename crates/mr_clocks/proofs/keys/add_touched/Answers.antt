use Rattle.mr_clocks.proofs.Common.{arith, AllocId, Touched}
use Rattle.mr_clocks.proofs.KeyLists.{mapped_all, mapped_more}
use Rattle.mr_clocks.proofs.keys.add_touched.Goals as goal

pub loop-i-preserved : goal.loop-i-preserved
loop-i-preserved c =
    let none : AllocId = record { thread = 0; count = 0 } in
    mapped_more Touched c.args.keys.now.items c.loop-i.keys.items c.push.new.self.items c.args.ids.now c.loop-i.i none c.loop-i-test.true c.loop-i.invariant c.in_ok-push.ensures.items

pub returns : goal.returns
returns c = mapped_all Touched c.args.keys.now.items c.loop-i.keys.items c.args.ids.now c.loop-i.i (omega arith) c.loop-i.invariant
