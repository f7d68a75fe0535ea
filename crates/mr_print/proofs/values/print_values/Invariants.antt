use Rattle.mr_print.proofs.Common.{◌≡◌, map, take, texts_in, with_commas, words_of_value, with_words}
use Rattle.mr_print.proofs.values.print_values.Given as goal

abbrev pub invariant-loop-i : goal.invariant-loop-i
invariant-loop-i l = l.text.items ≡ with_words l.fn.text.items (with_commas (map (words_of_value (texts_in l.program l.function)) (take l.i l.values)))
