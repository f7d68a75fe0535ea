use Rattle.mr_layout.proofs.Common.{◌≡◌, drop, is_chunk_met}
use Rattle.mr_layout.proofs.met.is_chunk_met.Given as goal

abbrev pub invariant-loop-chunk : goal.invariant-loop-chunk
invariant-loop-chunk l = is_chunk_met l.chunks l.start l.end l.ranges ≡ is_chunk_met (drop l.chunk-index l.chunks) l.start l.end l.ranges
