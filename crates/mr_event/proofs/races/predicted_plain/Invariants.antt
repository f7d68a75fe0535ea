use Rattle.mr_event.proofs.Common.{◌≡◌, AreClocks, predicted_below}
use Rattle.mr_event.proofs.races.predicted_plain.Given as goal

abbrev pub invariant-loop-j : goal.invariant-loop-j
invariant-loop-j l =
    record {
      clocks : AreClocks l.run l.slots.of.items l.slots.count l.clocks.items;
      pairs : l.pairs.items ≡ predicted_below l.run l.j;
    }
