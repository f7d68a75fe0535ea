use Rattle.mr_print.proofs.Common.{arith, case_words}
use Rattle.mr_print.proofs.AppendLaws.{with_rows_item}
use Rattle.mr_print.proofs.types.+print_tree.Goals as goal

pub print_cases-loop-case-preserved : goal.print_cases-loop-case-preserved
print_cases-loop-case-preserved t c = with_rows_item _ _ _ (omega arith) case_words _ _ _ c.case-item.is c.loop-case.invariant c.in_ok-print_case.ensures
