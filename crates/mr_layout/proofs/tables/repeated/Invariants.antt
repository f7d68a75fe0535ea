use Rattle.mr_layout.proofs.Common.{◌≡◌, ◌+◌, ◌-◌, ◌%◌, ℕ, ◌<◌, ◌≤◌, length, slice_index}
use Rattle.mr_layout.proofs.tables.repeated.Given as goal

abbrev pub invariant-loop-wide : goal.invariant-loop-wide
invariant-loop-wide l =
    record {
      some : 0 < length l.wide.items;
      short : length l.wide.items ≤ l.least + length l.row;
      whole : length l.wide.items % length l.row ≡ 0;
      same : (k : ℕ) → k < length l.wide.items → slice_index l.wide.items k ≡ slice_index l.row (k % length l.row);
    }

abbrev pub decreases-loop-wide : goal.decreases-loop-wide
decreases-loop-wide l = l.least - length l.wide.items
