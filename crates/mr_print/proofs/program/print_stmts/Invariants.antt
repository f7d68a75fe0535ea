use Rattle.mr_print.proofs.Common.{◌≡◌, map, take, stmt_line, texts_in, with_lines}
use Rattle.mr_print.proofs.program.print_stmts.Given as goal

abbrev pub invariant-loop-stmt : goal.invariant-loop-stmt
invariant-loop-stmt l = l.text.items ≡ with_lines l.fn.text.items (map (stmt_line (texts_in l.program l.function)) (take l.stmt-index l.stmts))
