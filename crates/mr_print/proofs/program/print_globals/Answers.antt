use Rattle.mr_print.proofs.Common.{arith, global_line}
use Rattle.mr_print.proofs.AppendLaws.{with_line_item}
use Rattle.mr_print.proofs.program.print_globals.Goals as goal

pub loop-global-preserved : goal.loop-global-preserved
loop-global-preserved c = with_line_item _ _ _ (omega arith) (global_line c.args.program.now) _ _ _ c.global-item.is c.loop-global.invariant c.in_ok-print_global.ensures
