use Rattle.mr_clocks.proofs.Common.{◌≡◌, ℕ, ◌+◌, ◌<◌, slice_index, IsFalse, IsTrue, thread_at, IsPart, clock_at, IsPlaceKnown, IsPlaceSeen, AreSkips, AreSyncsUnder}
use Rattle.mr_clocks.proofs.made.walked_clock.Given as goal

abbrev pub invariant-loop-y : goal.invariant-loop-y
invariant-loop-y l =
    record {
      part : IsPart l.run l.clock l.j;
      woken : AreSyncsUnder l.run l.clock l.j;
      seen : (z : ℕ) → z < l.y → IsPlaceSeen l.run l.rows l.links (slice_index l.found z) l.clock l.j;
      same : IsFalse l.changed → (p : ℕ) → slice_index l.latest (thread_at l.run l.j) ≡ p + 1 → l.clock ≡ clock_at l.clocks l.numbers p;
      left : AreSkips l.run l.j l.links l.left.items;
      known : IsTrue l.alone → (z : ℕ) → z < l.y → IsPlaceKnown l.run l.rows l.links (slice_index l.found z) l.clock l.j;
    }
