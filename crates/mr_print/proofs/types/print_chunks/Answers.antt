use Rattle.mr_print.proofs.Common.{arith, chunk_words}
use Rattle.mr_print.proofs.AppendLaws.{with_commas_at}
use Rattle.mr_print.proofs.types.print_chunks.Goals as goal

pub loop-i-preserved : goal.loop-i-preserved
loop-i-preserved c = with_commas_at _ _ _ (omega arith) chunk_words _ _ _ _ c.loop-i.invariant c.in_ok-comma.ensures c.in_ok-print_chunk.ensures
