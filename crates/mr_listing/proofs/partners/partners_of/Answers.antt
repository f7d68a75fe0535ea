use Rattle.mr_listing.proofs.Common.{rules, Partner}
use Rattle.std.proofs.lemmas.List.Sorted.{IsNonDecreasingBy-from_sort_by_key, answers_always}
use Rattle.mr_listing.proofs.PartnerLaws.{sorted_partners}
use Rattle.mr_listing.proofs.partners.partners_of.Goals as goal

pub returns : goal.returns
returns c =
    sorted_partners c.args.races.now _ _ c.in_ok-all.ensures
    (IsNonDecreasingBy-from_sort_by_key (λ (p : Partner). p.step) _ c.in_ok-sort_by_key.ensures.sorted
    (λ a r q k. search rules))
    (c.in_ok-sort_by_key.ensures.stable (λ (p : Partner). p.step) (answers_always _ _ _ (λ f a r g h. search rules)))
