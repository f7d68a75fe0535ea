use Rattle.std.specs.Prelude.{◌≡◌, ◌++◌, flat_map, take}
use Rattle.mr_report.specs.Report.{print_line}
use Rattle.mr_report.proofs.writing.push_output.Given as goal

-- the lines before this one were written
abbrev pub invariant-loop-line : goal.invariant-loop-line
invariant-loop-line l = l.out.items ≡ l.fn.out.items ++ flat_map print_line (take l.line-index l.lines)
