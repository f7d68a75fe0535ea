use Rattle.mr_clocks.proofs.Common.{false, arith, Access, Range}
use Rattle.mr_clocks.proofs.KeyLists.{mapped_all, mapped_more}
use Rattle.mr_clocks.proofs.keys.add_ranges.Goals as goal

pub loop-i-preserved : goal.loop-i-preserved
loop-i-preserved c =
    let none : Access = record { store = false; atomic = false; addr = 0; len = 0 } in
    mapped_more Range c.args.keys.now.items c.loop-i.keys.items c.push.new.self.items c.args.accesses.now c.loop-i.i none c.loop-i-test.true c.loop-i.invariant c.in_ok-push.ensures.items

pub returns : goal.returns
returns c = mapped_all Range c.args.keys.now.items c.loop-i.keys.items c.args.accesses.now c.loop-i.i (omega arith) c.loop-i.invariant
