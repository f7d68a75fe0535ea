use Rattle.mr_listing.proofs.Common.{◌∙◌, ap, nat_le, nat_lt, not, filter, IsNonDecreasingBy, List, subst, sym, Partner}
use Rattle.std.proofs.lemmas.List.Kept.{IsNonDecreasingBy-filter}
use Rattle.mr_listing.proofs.PartnerLaws.{of_one_step}
use Rattle.mr_listing.proofs.partners.block_of.Goals as goal

pub up_to_step-requires : goal.up_to_step-requires
up_to_step-requires c =
    subst (λ (xs : List Partner). IsNonDecreasingBy (λ (p : Partner). p.step) xs) (sym c.from_step.ensures)
    (IsNonDecreasingBy-filter (λ (p : Partner). p.step) (λ (p : Partner). not (nat_lt p.step c.args.number))
    c.args.sorted.now c.requires)

pub returns : goal.returns
returns c =
    c.up_to_step.ensures ∙ ap (filter (λ (p : Partner). nat_le p.step c.args.number)) c.from_step.ensures
    ∙ of_one_step c.args.sorted.now c.args.number
