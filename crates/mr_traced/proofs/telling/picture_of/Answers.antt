use Rattle.mr_traced.proofs.Common.{◌∙◌, ap, length, subst, named, IsPictureText, Seen}
use Rattle.mr_traced.proofs.Chains.{seen_with}
use Rattle.mr_traced.proofs.telling.picture_of.Goals as goal

pub returns : goal.returns
returns c = (
  subst (λ (s : Seen). IsPictureText c.args.asked s c.in_ok-text.text.items)
      (seen_with _ c.args.run.now _ (named c.args.places.now) c.shown-shown.ensures
      (c.as_slice-listed.ensures.value ∙ c.in_ok-races.ensures))
      c.in_ok-text.ensures,
  ap length (c.as_slice-listed.ensures.value ∙ c.in_ok-races.ensures),
)
