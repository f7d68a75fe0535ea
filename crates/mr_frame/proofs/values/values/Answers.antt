use Rattle.mr_frame.proofs.Common.{◌+◌, refl, ap, sym, ◌∙◌, drop, arith, seen, env_surround, each_valued, on_itself}
use Rattle.mr_eval.proofs.ExtendsLaws.{extends_same, extends_then}
use Rattle.mr_eval.proofs.RowRuns.{behind_row, row_end, row_next}
use Rattle.mr_frame.proofs.ToldLaws.{row_told}
use Rattle.mr_frame.proofs.values.values.Goals as goal

pub loop-arg-init : goal.loop-arg-init
loop-arg-init c = record {
  all = sym (ap (λ row. behind_row row (each_valued c.args.m.now (env_surround c.args.e.now) c.args.args.now (seen c.args.n.now))) c.clear.ensures.items ∙ on_itself (each_valued c.args.m.now (env_surround c.args.e.now) c.args.args.now (seen c.args.n.now)));
  kept = extends_same (seen c.args.n.now) (seen c.args.n.now) refl;
}

pub returns-in-Err-clause-given : goal.returns-in-Err-clause-given
returns-in-Err-clause-given c =
    let m = c.args.m.now in
    let s = env_surround c.args.e.now in
    row_told m s c.args.args.now c.loop-arg.arg-index c.loop-arg.row.items (seen c.args.n.now) (seen c.loop-arg.n) c.loop-arg.invariant.all c.arg-item.result c.in-Err.fault (seen c.value.new.n)
    c.value.new.n.refused c.loop-arg-test.true c.arg-item.is c.in-Err.ensures.given

pub returns-in-Err-clause-kept : goal.returns-in-Err-clause-kept
returns-in-Err-clause-kept c = extends_then (seen c.args.n.now) (seen c.loop-arg.n) (seen c.value.new.n) c.loop-arg.invariant.kept c.in-Err.ensures.kept

pub returns-in_err-push-in-Ok-clause-kept : goal.returns-in_err-push-in-Ok-clause-kept
returns-in_err-push-in-Ok-clause-kept c = extends_then (seen c.args.n.now) (seen c.loop-arg.n) (seen c.value.new.n) c.loop-arg.invariant.kept c.in-Ok.ensures.kept

pub loop-arg-preserved : goal.loop-arg-preserved
loop-arg-preserved c =
    let m = c.args.m.now in
    let s = env_surround c.args.e.now in
    let vs = c.args.args.now in
    let i = c.loop-arg.arg-index in
    let all = row_next m s vs i c.loop-arg.row.items (seen c.args.n.now) (seen c.loop-arg.n) c.loop-arg.invariant.all c.arg-item.result c.in-Ok.v (seen c.value.new.n) c.loop-arg-test.true c.arg-item.is c.in-Ok.ensures.given in
    record {
      all = all ∙ ap (λ row. behind_row row (each_valued m s (drop (i + 1) vs) (seen c.value.new.n))) (sym c.in_ok-push-in-Ok.ensures.items);
      kept = extends_then (seen c.args.n.now) (seen c.loop-arg.n) (seen c.value.new.n) c.loop-arg.invariant.kept c.in-Ok.ensures.kept;
    }

pub returns-clause-given : goal.returns-clause-given
returns-clause-given c =
    row_end c.args.m.now (env_surround c.args.e.now) c.args.args.now c.loop-arg.arg-index c.loop-arg.row.items (seen c.args.n.now) (seen c.loop-arg.n) c.loop-arg.invariant.all (omega (arith, c.loop-arg-test.false))

pub returns-clause-kept : goal.returns-clause-kept
returns-clause-kept c = c.loop-arg.invariant.kept
