use Rattle.mr_answer.proofs.Common.{◌≡◌, take, map, line_of}
use Rattle.mr_answer.proofs.report.lines_of.Given as goal

abbrev pub invariant-loop-i : goal.invariant-loop-i
invariant-loop-i l = l.lines.items ≡ map line_of (take l.i l.machine.config.output)
