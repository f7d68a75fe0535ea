use Rattle.mr_layout.proofs.Common.{◌≡◌, ℕ, ◌<◌, ◌≤◌, max, length, slice_index}
use Rattle.mr_layout.proofs.marks.mark.Given as goal

abbrev pub invariant-loop-k : goal.invariant-loop-k
invariant-loop-k l =
    record {
      wide : length l.other ≤ length l.table;
      long : length l.table ≡ length l.initial.table;
      done : (u : ℕ) → u < l.k → slice_index l.table u ≡ max (slice_index l.initial.table u) (slice_index l.other u);
      left : (u : ℕ) → l.k ≤ u → slice_index l.table u ≡ slice_index l.initial.table u;
    }
