use Rattle.mr_clocks.proofs.Common.{◌≡◌, ◌≤◌, length, slice_index, IsFalse, thread_at, IsPart}
use Rattle.mr_clocks.proofs.WakerLaws.{ArePassed}
use Rattle.mr_clocks.proofs.wakers.follow_wakers.Given as goal

abbrev pub invariant-loop-at : goal.invariant-loop-at
invariant-loop-at l =
    record {
      low : l.at ≤ length l.wakers.links.items;
      part : IsPart l.run l.clock l.j;
      passed : ArePassed l.run l.j l.wakers.links.items (slice_index l.wakers.heads.items (thread_at l.run l.j)) l.at l.clock;
      same : IsFalse l.changed → l.clock ≡ l.initial.clock;
    }

abbrev pub decreases-loop-at : goal.decreases-loop-at
decreases-loop-at l = l.at
