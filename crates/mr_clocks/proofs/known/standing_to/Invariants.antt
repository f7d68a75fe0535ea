use Rattle.mr_clocks.proofs.Common.{ℕ, ◌<◌, slice_index, IsTrue, IsPlaceKnown, IsPlaceSeen}
use Rattle.mr_clocks.proofs.known.standing_to.Given as goal

abbrev pub invariant-loop-y : goal.invariant-loop-y
invariant-loop-y l =
    record {
      seen : (z : ℕ) → z < l.y → IsPlaceSeen l.run l.rows l.links (slice_index l.found z) l.clock l.j;
      known : IsTrue l.settled → (z : ℕ) → z < l.y → IsPlaceKnown l.run l.rows l.links (slice_index l.found z) l.clock l.j;
    }
