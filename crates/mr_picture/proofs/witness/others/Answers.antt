use Rattle.mr_picture.proofs.Common.{◌∙◌, ap, arith, filter, range_with_len, is_other}
use Rattle.mr_picture.proofs.Turns.{all_met, joins_tested}
use Rattle.mr_picture.proofs.witness.others.Goals as goal

pub loop-step-preserved : goal.loop-step-preserved
loop-step-preserved c = record {
  from = omega (arith, c.loop-step.invariant.from);
  to = omega (arith, c.loop-step-test.true);
  made =
      joins_tested (is_other c.args.run.now c.args.race) c.loop-step.found.items c.push_if.new.found.items c.args.from
      c.loop-step.step c.is_other.result c.loop-step.invariant.from c.is_other.ensures c.loop-step.invariant.made
      c.in_ok-push_if.ensures;
}

pub returns : goal.returns
returns c =
    c.loop-step.invariant.made
    ∙ ap (λ n. filter (is_other c.args.run.now c.args.race) (range_with_len c.args.from n))
    (all_met c.args.from c.loop-step.step c.args.race.second c.loop-step.invariant.from c.loop-step-test.false
    c.loop-step.invariant.to)
