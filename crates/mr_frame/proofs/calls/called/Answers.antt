use Rattle.mr_frame.proofs.Common.{◌<◌, ◌∙◌, length, sym, ap, subst, slice_get, Program, env_surround, callee_of, given_types}
use Rattle.mr_frame.specs.Calling.{look_in}
use Rattle.mr_frame.proofs.BeginSteps.{kept_known}
use Rattle.mr_frame.proofs.CallLaws.{called_fits, called_other, callee_below, given_known, has_locals}
use Rattle.mr_frame.proofs.calls.called.Goals as goal

pub function_at-requires : goal.function_at-requires
function_at-requires c =
    let P : Program → Type 0 = λ p. c.in-Some.function.0 < length p.functions in
    subst P (sym c.program.ensures.same) (callee_below c.args.e.now c.requires.inside.0 c.requires.inside.1 c.args.function c.in-Some.function.0 (sym c.in-Some.ensures))

pub is_fitting-requires-clause-locals : goal.is_fitting-requires-clause-locals
is_fitting-requires-clause-locals c =
    has_locals c.args.e.now c.requires.inside.0 c.requires.inside.1 c.in-Some.function.0 c.function_at.result.now
    (ap (λ (p : Program). slice_get p.functions c.in-Some.function.0) (sym c.program.ensures.same) ∙ c.function_at.ensures)

pub returns-then-not-is_fitting : goal.returns-then-not-is_fitting
returns-then-not-is_fitting c =
    let e = c.args.e.now in
    let fn = c.function_at.result.now in
    let number = c.in-Some.function.0 in
    let there = ap (λ (p : Program). slice_get p.functions number) (sym c.program.ensures.same) ∙ c.function_at.ensures in
    let given = given_known e c.args.args.now c.args.to.now c.requires.call in
    let kept = kept_known fn (has_locals e c.requires.inside.0 c.requires.inside.1 number fn there) in
    λ s refused. called_other (look_in e) (given_types (env_surround e) c.args.to.now c.args.args.now) c.args.place c.args.row.items s (callee_of e.functions.now c.args.function) number (sym c.in-Some.ensures) fn there
    given.0 kept.0 given.1 kept.1 (sym (c.is_fitting.ensures given.0 kept.0 given.1 kept.1) ∙ c.if-not-is_fitting.true)

pub returns : goal.returns
returns c =
    let e = c.args.e.now in
    let fn = c.function_at.result.now in
    let number = c.in-Some.function.0 in
    let there = ap (λ (p : Program). slice_get p.functions number) (sym c.program.ensures.same) ∙ c.function_at.ensures in
    let given = given_known e c.args.args.now c.args.to.now c.requires.call in
    let kept = kept_known fn (has_locals e c.requires.inside.0 c.requires.inside.1 number fn there) in
    λ s refused. record {
      function = fn;
      types = kept.0;
      there = there;
      typed = kept.1;
      is = called_fits (look_in e) (given_types (env_surround e) c.args.to.now c.args.args.now) c.args.place c.args.row.items s (callee_of e.functions.now c.args.function) number (sym c.in-Some.ensures) fn there
          given.0 kept.0 given.1 kept.1 (sym (c.is_fitting.ensures given.0 kept.0 given.1 kept.1) ∙ c.if-not-is_fitting.false);
    }
