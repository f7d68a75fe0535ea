use Rattle.mr_listing.proofs.Common.{rules, ranks_by, IsStrictWeakOrder, is_lt, nat_cmp, Group}
use Rattle.std.proofs.lemmas.Cmp.{nat_cmp_total}
use Rattle.std.proofs.lemmas.Fn.{always_returns_same}
use Rattle.std.proofs.lemmas.List.Sorted.{IsStrictWeakOrder-flip}
use Rattle.mr_listing.proofs.RankLaws.{comes_first, ranked_by_sort}
use Rattle.mr_listing.proofs.pairs.rank_by_count.Goals as goal

-- the order of the counts, turned round
falls : IsStrictWeakOrder comes_first
falls =
    IsStrictWeakOrder-flip (λ (a b : Group). is_lt (nat_cmp a.count b.count)) (ranks_by nat_cmp_total (λ (g : Group). g.count))

pub returns : goal.returns
returns c = λ most few.
    ranked_by_sort most _ _ falls few c.in_ok-sort_by.ensures.permutation
    (c.in_ok-sort_by.ensures.sorted comes_first falls (always_returns_same _ _ _ (λ a r f k. search rules)))
    (c.in_ok-sort_by.ensures.stable comes_first falls (always_returns_same _ _ _ (λ a r f k. search rules)))
