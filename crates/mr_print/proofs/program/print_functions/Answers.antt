use Rattle.mr_print.proofs.Common.{arith, function_lines}
use Rattle.mr_print.proofs.AppendLaws.{with_lines_item}
use Rattle.mr_print.proofs.program.print_functions.Goals as goal

pub loop-function-preserved : goal.loop-function-preserved
loop-function-preserved c = with_lines_item _ _ _ (omega arith) (function_lines c.args.program.now) _ _ _ c.function-item.is c.loop-function.invariant c.in_ok-print_function.ensures
