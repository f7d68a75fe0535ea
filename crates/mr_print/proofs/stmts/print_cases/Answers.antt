use Rattle.mr_print.proofs.Common.{arith, target_words, texts_in}
use Rattle.mr_print.proofs.AppendLaws.{with_rows_at}
use Rattle.mr_print.proofs.stmts.print_cases.Goals as goal

pub loop-case-preserved : goal.loop-case-preserved
loop-case-preserved c =
    with_rows_at _ _ _ (omega arith) (target_words (texts_in c.args.program.now c.args.function.now)) _ _ _ c.loop-case.invariant c.in_ok-print_case.ensures
