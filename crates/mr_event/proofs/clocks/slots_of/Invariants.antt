use Rattle.mr_event.proofs.Common.{◌≤◌}
use Rattle.mr_event.specs.Clocks.{AreSlotsBelow}
use Rattle.mr_event.proofs.clocks.slots_of.Given as goal

abbrev pub invariant-loop-i : goal.invariant-loop-i
invariant-loop-i l =
    record {
      slots : AreSlotsBelow l.run l.i l.of.items l.count;
      few : l.count ≤ l.i;
    }
