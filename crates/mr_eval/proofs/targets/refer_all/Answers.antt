use Rattle.mr_eval.proofs.Common.{arith, err_from_is_err_and, seen}
use Rattle.mr_eval.proofs.ExtendsLaws.{extends_then}
use Rattle.mr_eval.proofs.ReferRuns.{referred_end, referred_next, referred_stop}
use Rattle.mr_eval.proofs.targets.refer_all.Goals as goal

pub returns-in_err-refer-clause-given : goal.returns-in_err-refer-clause-given
returns-in_err-refer-clause-given c =
    let p = err_from_is_err_and c.from_residual.result c.from_residual.ensures.1 in
    rw (p.1, p.2) (referred_stop c.args.m.now c.args.targets.now c.loop-target.target-index (seen c.args.notes.now) (seen c.loop-target.notes) c.loop-target.invariant.all
    _ c.in_err-refer.field-0.0 (seen c.refer.new.notes) c.refer.new.notes.refused c.loop-target-test.true c.in_err-refer.ensures.given)

pub loop-target-preserved : goal.loop-target-preserved
loop-target-preserved c = record {
  all = referred_next c.args.m.now c.args.targets.now c.loop-target.target-index (seen c.args.notes.now) (seen c.loop-target.notes) c.loop-target.invariant.all
      _ (seen c.refer.new.notes) c.loop-target-test.true c.in_ok-refer.ensures.given;
  kept = extends_then (seen c.args.notes.now) (seen c.loop-target.notes) (seen c.refer.new.notes) c.loop-target.invariant.kept c.in_ok-refer.ensures.kept;
}

pub returns-clause-given : goal.returns-clause-given
returns-clause-given c =
    referred_end c.args.m.now c.args.targets.now c.loop-target.target-index (seen c.args.notes.now) (seen c.loop-target.notes) c.loop-target.invariant.all
    (omega (arith, c.loop-target-test.false))
