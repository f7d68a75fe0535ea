use Rattle.mr_traced.proofs.Common.{◌≡◌, ℕ, ◌+◌, ◌-◌, ◌++◌, ◌∙◌, ap, arith, flat_map, range_with_len, seen, step_text}
use Rattle.mr_labels.proofs.Growing.{appended_next}
use Rattle.mr_traced.proofs.body.push_steps.Goals as goal

pub loop-number-preserved : goal.loop-number-preserved
loop-number-preserved c =
    let s = seen c.args.shown.now in
    let from : ℕ = c.args.from in
    let number : ℕ = c.loop-number.number in
    let next : number - from + 1 ≡ number + 1 - from = omega (arith, c.loop-number.invariant.from) in
    record {
      from = omega (arith, c.loop-number.invariant.from);
      to = omega (arith, c.loop-number-test.true);
      made =
          c.in_ok-push_step.ensures
          ∙ appended_next (step_text s) c.args.out.now.items c.loop-number.out.items from (number - from) number
          (omega (arith, c.loop-number.invariant.from)) c.loop-number.invariant.made
          ∙ ap (λ n. c.args.out.now.items ++ flat_map (step_text s) (range_with_len from n)) next;
    }

pub returns : goal.returns
returns c =
    let met : c.loop-number.number - c.args.from ≡ c.args.to - c.args.from =
    omega (arith, c.loop-number.invariant.from, c.loop-number.invariant.to, c.loop-number-test.false) in
    c.loop-number.invariant.made
    ∙ ap (λ n. c.args.out.now.items ++ flat_map (step_text (seen c.args.shown.now)) (range_with_len c.args.from n)) met
