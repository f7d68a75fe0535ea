use Rattle.mr_print.proofs.Common.{arith, argument_words}
use Rattle.mr_print.proofs.AppendLaws.{with_commas_at}
use Rattle.mr_print.proofs.program.print_arguments.Goals as goal

pub loop-i-preserved : goal.loop-i-preserved
loop-i-preserved c = with_commas_at _ _ _ (omega arith) (argument_words c.args.program.now c.args.function.now) _ _ _ _ c.loop-i.invariant c.in_ok-comma.ensures c.in_ok-print_argument.ensures
