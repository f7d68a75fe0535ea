use Rattle.std.specs.Prelude.{flat_map, take}
use Rattle.mr_sched.specs.Spelling.{Extends}
use Rattle.mr_report.specs.Report.{print_line}
use Rattle.mr_report.proofs.ExtendsLaws.{extends_behind, on_err}
use Rattle.mr_report.proofs.writing.push_output.Goals as goal

pub returns-in_err-push_line-clause-err : goal.returns-in_err-push_line-clause-err
returns-in_err-push_line-clause-err c =
    let old = c.args.out.now.items in
    let new = c.push_line.new.out.items in
    on_err c.from_residual.result (Extends old new)
    (extends_behind old (flat_map print_line (take c.loop-line.line-index c.args.lines.now)) c.loop-line.out.items new c.loop-line.invariant c.in_err-push_line.ensures.err)
