use Rattle.mr_print.proofs.Common.{◌≡◌, map, take, argument_words, with_commas, with_words}
use Rattle.mr_print.proofs.program.print_arguments.Given as goal

abbrev pub invariant-loop-i : goal.invariant-loop-i
invariant-loop-i l = l.text.items ≡ with_words l.fn.text.items (with_commas (map (argument_words l.program l.function) (take l.i l.args)))
