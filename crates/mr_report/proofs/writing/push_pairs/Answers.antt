use Rattle.std.specs.Prelude.{flat_map, take}
use Rattle.mr_sched.specs.Spelling.{Extends}
use Rattle.mr_report.specs.Report.{race_line}
use Rattle.mr_report.proofs.ExtendsLaws.{extends_behind, on_err}
use Rattle.mr_report.proofs.writing.push_pairs.Goals as goal

pub returns-in_err-push_race-clause-err : goal.returns-in_err-push_race-clause-err
returns-in_err-push_race-clause-err c =
    let old = c.args.out.now.items in
    let new = c.push_race.new.out.items in
    on_err c.from_residual.result (Extends old new)
    (extends_behind old (flat_map race_line (take c.loop-pair.pair-index c.args.races.now)) c.loop-pair.out.items new c.loop-pair.invariant c.in_err-push_race.ensures.err)
