use Rattle.mr_layout.proofs.Common.{◌≡◌, drop, is_chunk_overlapping}
use Rattle.mr_layout.proofs.rules.are_chunks_overlapping.Given as goal

abbrev pub invariant-loop-i : goal.invariant-loop-i
invariant-loop-i l = is_chunk_overlapping l.chunks ≡ is_chunk_overlapping (drop l.i l.chunks)
