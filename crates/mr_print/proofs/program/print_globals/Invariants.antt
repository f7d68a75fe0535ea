use Rattle.mr_print.proofs.Common.{◌≡◌, map, take, global_line, with_lines}
use Rattle.mr_print.proofs.program.print_globals.Given as goal

abbrev pub invariant-loop-global : goal.invariant-loop-global
invariant-loop-global l = l.text.items ≡ with_lines l.fn.text.items (map (global_line l.program) (take l.global-index l.globals))
