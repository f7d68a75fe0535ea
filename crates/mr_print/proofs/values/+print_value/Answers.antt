use Rattle.mr_print.proofs.Common.{◌∷◌, arith, codes, texts_in, words_of_value}
use Rattle.mr_print.proofs.AppendLaws.{with_rows_item}
use Rattle.mr_print.proofs.values.+print_value.Goals as goal

pub print_parts-loop-value-preserved : goal.print_parts-loop-value-preserved
print_parts-loop-value-preserved t c =
    with_rows_item _ _ _ (omega arith) (λ v. codes "," ∷ words_of_value (texts_in c.args.program.now c.args.function.now) v) _ _ _
    c.value-item.is c.loop-value.invariant c.in_ok-print_part.ensures
