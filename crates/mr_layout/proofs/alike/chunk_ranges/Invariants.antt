use Rattle.mr_layout.proofs.Common.{◌≡◌, take, not_empty}
use Rattle.mr_layout.proofs.alike.chunk_ranges.Given as goal

abbrev pub invariant-loop-chunk : goal.invariant-loop-chunk
invariant-loop-chunk l = l.ranges.items ≡ not_empty (take l.chunk-index l.chunks)
