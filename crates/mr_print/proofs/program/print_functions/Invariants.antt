use Rattle.mr_print.proofs.Common.{◌≡◌, take, flat_map, function_lines, with_lines}
use Rattle.mr_print.proofs.program.print_functions.Given as goal

abbrev pub invariant-loop-function : goal.invariant-loop-function
invariant-loop-function l = l.text.items ≡ with_lines l.fn.text.items (flat_map (function_lines l.program) (take l.function-index l.functions))
