use Rattle.mr_print.proofs.Common.{arith, texts_in, words_of_value}
use Rattle.mr_print.proofs.AppendLaws.{with_commas_item}
use Rattle.mr_print.proofs.values.print_values.Goals as goal

pub loop-i-preserved : goal.loop-i-preserved
loop-i-preserved c =
    with_commas_item _ _ _ (omega arith) (words_of_value (texts_in c.args.program.now c.args.function.now)) _ _ _ _
    c.index-values-i.is c.loop-i.invariant c.in_ok-comma.ensures c.in_ok-print_value.ensures
