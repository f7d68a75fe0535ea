use Rattle.mr_print.proofs.Common.{◌≡◌, map, take, codes, field_words, variant_words, with_commas, with_word, with_words}
use Rattle.mr_print.proofs.types.+print_type.Given as goal

abbrev pub invariant-print_fields-loop-i : goal.invariant-print_fields-loop-i
invariant-print_fields-loop-i l = l.text.items ≡ with_words (with_word l.fn.text.items (codes "{")) (with_commas (map field_words (take l.i l.fields)))

abbrev pub invariant-print_variants-loop-i : goal.invariant-print_variants-loop-i
invariant-print_variants-loop-i l = l.text.items ≡ with_words (with_word l.fn.text.items (codes "{")) (with_commas (map variant_words (take l.i l.variants)))
