use Rattle.mr_print.proofs.Common.{arith, stmt_line, texts_in}
use Rattle.mr_print.proofs.AppendLaws.{with_line_item}
use Rattle.mr_print.proofs.program.print_stmts.Goals as goal

pub loop-stmt-preserved : goal.loop-stmt-preserved
loop-stmt-preserved c = with_line_item _ _ _ (omega arith) (stmt_line (texts_in c.args.program.now c.args.function.now)) _ _ _ c.stmt-item.is c.loop-stmt.invariant c.in_ok-print_line.ensures
