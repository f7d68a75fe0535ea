use Rattle.mr_layout.proofs.Common.{drop, is_in_chunk}
use Rattle.mr_layout.proofs.TableLaws.{Owes}
use Rattle.mr_layout.proofs.tables.mark_chunks.Given as goal

abbrev pub invariant-loop-chunk : goal.invariant-loop-chunk
invariant-loop-chunk l = Owes (is_in_chunk (drop l.chunk-index l.chunks)) (is_in_chunk l.chunks) l.start l.fn.table l.table
