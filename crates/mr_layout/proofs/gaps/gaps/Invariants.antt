use Rattle.mr_layout.proofs.Common.{◌≡◌, ◌++◌, false, drop, not_empty, gaps_from, is_chunk_past}
use Rattle.mr_layout.proofs.gaps.gaps.Given as goal

abbrev pub invariant-loop-chunk : goal.invariant-loop-chunk
invariant-loop-chunk l =
    (not_empty (gaps_from 0 l.end l.chunks) ≡ l.gaps.items ++ not_empty (gaps_from l.at l.end (drop l.chunk-index l.chunks))) × (is_chunk_past l.end (drop l.chunk-index l.chunks) ≡ false)
