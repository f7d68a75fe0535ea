use Rattle.mr_print.proofs.Common.{◌≡◌, take, flat_map, case_words, with_words}
use Rattle.mr_print.proofs.types.+print_tree.Given as goal

abbrev pub invariant-print_cases-loop-case : goal.invariant-print_cases-loop-case
invariant-print_cases-loop-case l = l.text.items ≡ with_words l.fn.text.items (flat_map case_words (take l.case-index l.cases))
