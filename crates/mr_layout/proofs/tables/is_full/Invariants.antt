use Rattle.mr_layout.proofs.Common.{ℕ, ◌<◌, ◌≤◌, slice_index}
use Rattle.mr_layout.proofs.tables.is_full.Given as goal

abbrev pub invariant-loop-byte : goal.invariant-loop-byte
invariant-loop-byte l = (k : ℕ) → k < l.byte-index → l.least ≤ slice_index l.row k
