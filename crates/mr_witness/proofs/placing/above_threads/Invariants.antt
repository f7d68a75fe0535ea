use Rattle.mr_witness.proofs.Common.{◌≡◌, ◌≤◌, ◌^◌, drop, above_threads}
use Rattle.std.proofs.Common.{max}
use Rattle.mr_witness.proofs.placing.above_threads.Given as goal

abbrev pub invariant-loop-step : goal.invariant-loop-step
invariant-loop-step l =
    record {
      above : max l.above (above_threads (drop l.step-index l.run)) ≡ above_threads l.run;
      limit : l.above ≤ 2 ^ 32;
    }
