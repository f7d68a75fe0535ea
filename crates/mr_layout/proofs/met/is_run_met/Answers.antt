use Rattle.mr_layout.proofs.Common.{◌≡◌, ◌+◌, min, true, false, sym, ◌∙◌, arith, lt_test, not_lt_test}
use Rattle.mr_layout.proofs.RunLaws.{run_missed, run_seen}
use Rattle.mr_layout.proofs.met.is_run_met.Goals as goal

pub returns-in-empty : goal.returns-in-empty
returns-in-empty c = sym (run_missed c.args.start c.args.len c.args.end c.args.ranges.now c.ranges_past.result.now c.ranges_past.ensures (omega arith))

pub returns-then-start-stop : goal.returns-then-start-stop
returns-then-start-stop c =
    let stop : c.min-stop.result ≡ min c.args.end (c.args.start + c.args.len) = omega arith in
    run_seen c.args.start c.args.len c.args.end c.args.ranges.now c.ranges_past.result.now c.min-stop.result c.ranges_past.ensures (omega arith) c.requires.order stop true (lt_test c.args.start c.min-stop.result (omega arith))

pub returns-else-start-stop : goal.returns-else-start-stop
returns-else-start-stop c =
    let stop : c.min-stop.result ≡ min c.args.end (c.args.start + c.args.len) = omega arith in
    let no = not_lt_test c.args.start c.min-stop.result (omega arith) in
    no ∙ run_seen c.args.start c.args.len c.args.end c.args.ranges.now c.ranges_past.result.now c.min-stop.result c.ranges_past.ensures (omega arith) c.requires.order stop false no
