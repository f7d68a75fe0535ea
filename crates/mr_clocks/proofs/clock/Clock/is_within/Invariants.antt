use Rattle.mr_clocks.proofs.Common.{ℕ, ◌<◌, ◌≤◌, slice_index}
use Rattle.mr_clocks.proofs.clock.Clock.is_within.Given as goal

abbrev pub invariant-loop-t : goal.invariant-loop-t
invariant-loop-t l = (u : ℕ) → u < l.t → slice_index l.self u ≤ slice_index l.bounds u
