use Rattle.mr_print.proofs.Common.{arith, field_words, variant_words}
use Rattle.mr_print.proofs.AppendLaws.{with_commas_item}
use Rattle.mr_print.proofs.types.+print_type.Goals as goal

pub print_fields-loop-i-preserved : goal.print_fields-loop-i-preserved
print_fields-loop-i-preserved t c =
    with_commas_item _ _ _ (omega arith) field_words _ _ _ _ c.index-fields-i.is c.loop-i.invariant c.in_ok-comma.ensures c.in_ok-print_field.ensures

pub print_variants-loop-i-preserved : goal.print_variants-loop-i-preserved
print_variants-loop-i-preserved t c =
    with_commas_item _ _ _ (omega arith) variant_words _ _ _ _ c.index-variants-i.is c.loop-i.invariant c.in_ok-comma.ensures c.in_ok-print_variant.ensures
