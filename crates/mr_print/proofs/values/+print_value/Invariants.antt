use Rattle.mr_print.proofs.Common.{◌≡◌, ◌∷◌, take, codes, flat_map, texts_in, words_of_value, with_words}
use Rattle.mr_print.proofs.values.+print_value.Given as goal

abbrev pub invariant-print_parts-loop-value : goal.invariant-print_parts-loop-value
invariant-print_parts-loop-value l =
    l.text.items ≡ with_words l.fn.text.items (flat_map (λ v. codes "," ∷ words_of_value (texts_in l.program l.function) v) (take l.value-index l.values))
