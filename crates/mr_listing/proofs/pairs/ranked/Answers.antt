use Rattle.mr_listing.proofs.Common.{◌≤◌, ◌∙◌, ap, length, List, subst, sym, All, Group, by_count, seen}
use Rattle.mr_listing.proofs.GroupLaws.{few_races}
use Rattle.mr_listing.proofs.pairs.ranked.Goals as goal

pub returns : goal.returns
returns c =
    let races = (seen c.args.shown.now).races in
    c.in_ok-rank_by_count.ensures (length races)
    (subst (λ (gs : List Group). All (λ (g : Group). g.count ≤ length races) gs) (sym c.in_ok-groups.ensures)
    (few_races (seen c.args.shown.now)))
    ∙ ap (by_count (length races)) c.in_ok-groups.ensures
