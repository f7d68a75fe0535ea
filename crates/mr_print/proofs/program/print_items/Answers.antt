use Rattle.mr_print.proofs.Common.{arith, words_of_item}
use Rattle.mr_print.proofs.AppendLaws.{with_rows_at}
use Rattle.mr_print.proofs.program.print_items.Goals as goal

pub loop-item-preserved : goal.loop-item-preserved
loop-item-preserved c = with_rows_at _ _ _ (omega arith) (words_of_item c.args.program.now) _ _ _ c.loop-item.invariant c.in_ok-print_item.ensures
