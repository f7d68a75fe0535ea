use Rattle.mr_layout.proofs.Common.{◌≡◌, ◌+◌, ◌-◌, ℕ, ◌<◌, ◌≤◌, max, length, slice_index}
use Rattle.mr_layout.proofs.tables.mark.Given as goal

abbrev pub invariant-loop-k : goal.invariant-loop-k
invariant-loop-k l =
    record {
      inside : l.at + length l.other ≤ length l.table;
      long : length l.table ≡ length l.initial.table;
      before : (u : ℕ) → u < l.at → slice_index l.table u ≡ slice_index l.initial.table u;
      done : (u : ℕ) → l.at ≤ u → u < l.k → slice_index l.table u ≡ max (slice_index l.initial.table u) (slice_index l.other (u - l.at));
      left : (u : ℕ) → l.k ≤ u → slice_index l.table u ≡ slice_index l.initial.table u;
    }
