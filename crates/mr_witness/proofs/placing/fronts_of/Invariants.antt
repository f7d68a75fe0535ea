use Rattle.mr_witness.proofs.Common.{◌≡◌, ℕ, ◌<◌, length, slice_index_or, IsNextOf}
use Rattle.mr_witness.proofs.placing.fronts_of.Given as goal

abbrev pub invariant-loop-thread : goal.invariant-loop-thread
invariant-loop-thread l =
    record {
      wide : length l.fronts.items ≡ l.thread;
      each : (t : ℕ) → t < l.thread → IsNextOf l.run t 0 (slice_index_or l.fronts.items t 0);
    }
