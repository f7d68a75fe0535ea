use Rattle.mr_layout.proofs.Common.{◌≡◌, drop, is_chunk_marked}
use Rattle.mr_layout.proofs.marked.is_chunk_marked.Given as goal

abbrev pub invariant-loop-chunk : goal.invariant-loop-chunk
invariant-loop-chunk l = is_chunk_marked l.chunks l.table ≡ is_chunk_marked (drop l.chunk-index l.chunks) l.table
