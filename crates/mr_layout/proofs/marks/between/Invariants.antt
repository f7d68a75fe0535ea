use Rattle.mr_layout.proofs.Common.{◌≡◌, ℕ, ◌<◌, false, length, drop, not, ◌&&◌, is_mark, is_chunk_past, is_in_chunk}
use Rattle.mr_layout.proofs.marks.between.Given as goal

abbrev pub invariant-loop-chunk : goal.invariant-loop-chunk
invariant-loop-chunk l =
    record {
      long : length l.table.items ≡ l.end;
      inside : is_chunk_past l.end (drop l.chunk-index l.chunks) ≡ false;
      marks : (k : ℕ) → k < l.end → (is_mark l.table.items k && not (is_in_chunk (drop l.chunk-index l.chunks) k)) ≡ not (is_in_chunk l.chunks k);
    }
