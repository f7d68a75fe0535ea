use Rattle.mr_print.proofs.Common.{◌≡◌, take, flat_map, target_words, texts_in, with_words}
use Rattle.mr_print.proofs.stmts.print_cases.Given as goal

abbrev pub invariant-loop-case : goal.invariant-loop-case
invariant-loop-case l = l.text.items ≡ with_words l.fn.text.items (flat_map (target_words (texts_in l.program l.function)) (take l.case-index l.cases))
