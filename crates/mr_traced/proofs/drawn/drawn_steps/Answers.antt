use Rattle.mr_traced.proofs.Common.{◌≡◌, ℕ, ◌+◌, ◌-◌, ◌∷◌, [], ◌++◌, ◌∙◌, ap, arith, sym, map, range_with_len, drawn_step, seen}
use Rattle.std.proofs.lemmas.List.FromFn.{map-range_with_len_more}
use Rattle.mr_traced.proofs.drawn.drawn_steps.Goals as goal

pub drawn_step-requires : goal.drawn_step-requires
drawn_step-requires c = omega (arith, c.loop-number-test.true, c.requires)

pub loop-number-preserved : goal.loop-number-preserved
loop-number-preserved c =
    let s = seen c.args.shown.now in
    let from : ℕ = c.args.span.from in
    let number : ℕ = c.loop-number.number in
    let next : number - from + 1 ≡ number + 1 - from = omega (arith, c.loop-number.invariant.from) in
    record {
      from = omega (arith, c.loop-number.invariant.from);
      to = omega (arith, c.loop-number-test.true);
      made =
          c.in_ok-push.ensures.items
          ∙ ap (λ d. c.loop-number.drawn.items ++ d ∷ []) c.in_ok-step.ensures
          ∙ ap (λ xs. xs ++ drawn_step s number ∷ []) c.loop-number.invariant.made
          ∙ sym (map-range_with_len_more (drawn_step s) from (number - from) number (omega (arith, c.loop-number.invariant.from)))
          ∙ ap (λ n. map (drawn_step s) (range_with_len from n)) next;
    }

pub returns : goal.returns
returns c =
    let met : c.loop-number.number - c.args.span.from ≡ c.args.span.to - c.args.span.from =
    omega (arith, c.loop-number.invariant.from, c.loop-number.invariant.to, c.loop-number-test.false) in
    c.loop-number.invariant.made
    ∙ ap (λ n. map (drawn_step (seen c.args.shown.now)) (range_with_len c.args.span.from n)) met
