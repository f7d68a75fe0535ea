use Rattle.mr_clocks.proofs.Common.{ℕ, ◌<◌, slice_index, IsUpTo}
use Rattle.mr_clocks.proofs.whole.is_needed_plain.Given as goal

abbrev pub invariant-loop-x : goal.invariant-loop-x
invariant-loop-x l = (m : ℕ) → m < l.x → IsUpTo l.run (slice_index l.steps m) l.k → ⊥
