use Rattle.mr_layout.proofs.Common.{◌≡◌, drop, meets_chunk}
use Rattle.mr_layout.proofs.rules.meets_chunk.Given as goal

abbrev pub invariant-loop-chunk : goal.invariant-loop-chunk
invariant-loop-chunk l = meets_chunk l.start l.len l.chunks ≡ meets_chunk l.start l.len (drop l.chunk-index l.chunks)
