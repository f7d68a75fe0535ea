use Rattle.mr_clocks.proofs.Common.{ℕ, ◌<◌, slice_index, IsPlaceKnown}
use Rattle.mr_clocks.proofs.known.are_latest_known.Given as goal

abbrev pub invariant-loop-y : goal.invariant-loop-y
invariant-loop-y l = (z : ℕ) → z < l.y → IsPlaceKnown l.run l.rows l.links (slice_index l.found z) l.clock l.j
