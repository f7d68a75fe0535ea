use Rattle.mr_print.proofs.Common.{arith, local_words}
use Rattle.mr_print.proofs.AppendLaws.{with_commas_item}
use Rattle.mr_print.proofs.program.print_locals.Goals as goal

pub loop-i-preserved : goal.loop-i-preserved
loop-i-preserved c = with_commas_item _ _ _ (omega arith) (local_words c.args.program.now) _ _ _ _ c.index-locals-i.is c.loop-i.invariant c.in_ok-comma.ensures c.in_ok-print_local.ensures
