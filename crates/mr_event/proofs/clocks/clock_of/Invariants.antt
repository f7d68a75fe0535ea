use Rattle.mr_event.proofs.Common.{◌≡◌, length}
use Rattle.mr_event.proofs.ClockSteps.{IsClockFrom}
use Rattle.mr_event.proofs.clocks.clock_of.Given as goal

abbrev pub invariant-loop-i : goal.invariant-loop-i
invariant-loop-i l =
    record {
      wide : length l.clock ≡ l.slots.count;
      from : IsClockFrom l.run l.slots.of.items l.clock l.i l.k;
    }
