use Rattle.mr_event.proofs.Common.{◌≡◌, length, AreClocks}
use Rattle.mr_event.proofs.clocks.extend.Given as goal

abbrev pub invariant-loop-j : goal.invariant-loop-j
invariant-loop-j l =
    record {
      clocks : AreClocks l.run l.slots.of.items l.slots.count l.clocks.items;
      known : length l.clocks.items ≡ l.j;
    }
