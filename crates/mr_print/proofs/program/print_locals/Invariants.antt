use Rattle.mr_print.proofs.Common.{◌≡◌, map, take, codes, local_words, with_commas, with_word, with_words}
use Rattle.mr_print.proofs.program.print_locals.Given as goal

abbrev pub invariant-loop-i : goal.invariant-loop-i
invariant-loop-i l = l.text.items ≡ with_words (with_word l.fn.text.items (codes "let")) (with_commas (map (local_words l.program) (take l.i l.locals)))
