use Rattle.mr_layout.proofs.Common.{◌≡◌, ◌+◌, ℕ, ◌<◌, ◌≤◌, length, slice_index}
use Rattle.mr_layout.proofs.tables.put.Given as goal

abbrev pub invariant-loop-k : goal.invariant-loop-k
invariant-loop-k l =
    record {
      most : l.k ≤ l.start + l.len;
      long : length l.table ≡ length l.initial.table;
      before : (u : ℕ) → u < l.start → slice_index l.table u ≡ slice_index l.initial.table u;
      done : (u : ℕ) → l.start ≤ u → u < l.k → slice_index l.table u ≡ l.value;
      left : (u : ℕ) → l.k ≤ u → slice_index l.table u ≡ slice_index l.initial.table u;
    }
