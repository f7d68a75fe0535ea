use Rattle.mr_listing.proofs.Common.{List, subst, sym, Partner, ArePartners, seen}
use Rattle.mr_listing.proofs.listing.steps.Goals as goal

pub push_steps-requires : goal.push_steps-requires
push_steps-requires c =
    subst (λ (ps : List Partner). ArePartners (seen c.args.shown.now).races ps) (sym c.as_slice.ensures.value)
    c.in_ok-partners.ensures
