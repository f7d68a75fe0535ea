use Rattle.mr_traced.proofs.Common.{List, subst, sym, seen}
use Rattle.mr_listing.specs.declared.partners.Partner.{Partner}
use Rattle.mr_listing.specs.Partners.{ArePartners}
use Rattle.mr_traced.proofs.body.steps_text.Goals as goal

pub push_steps-requires : goal.push_steps-requires
push_steps-requires c =
    subst (λ (ps : List Partner). ArePartners (seen c.args.shown.now).races ps) (sym c.as_slice.ensures.value)
    c.in_ok-partners.ensures
