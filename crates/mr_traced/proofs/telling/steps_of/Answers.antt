use Rattle.mr_traced.proofs.Common.{◌∙◌, ap, length, subst, named, IsStepsText, Seen}
use Rattle.mr_traced.proofs.Chains.{seen_with}
use Rattle.mr_traced.proofs.telling.steps_of.Goals as goal

pub returns : goal.returns
returns c = (
  subst (λ (s : Seen). IsStepsText c.args.from c.args.to s c.in_ok-text.text.items)
      (seen_with _ c.args.run.now _ (named c.args.places.now) c.shown-shown.ensures
      (c.as_slice-listed.ensures.value ∙ c.in_ok-races.ensures))
      c.in_ok-text.ensures,
  ap length (c.as_slice-listed.ensures.value ∙ c.in_ok-races.ensures),
)
