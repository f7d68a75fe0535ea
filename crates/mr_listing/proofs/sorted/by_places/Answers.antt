use Rattle.mr_listing.proofs.Common.{rules, seen}
use Rattle.std.proofs.lemmas.Fn.{always_returns_same}
use Rattle.mr_listing.proofs.AlikeLaws.{lies_first, lies_in_order, sorted_races}
use Rattle.mr_listing.proofs.sorted.by_places.Goals as goal

pub returns : goal.returns
returns c =
    let s = seen c.args.shown.now in
    sorted_races s _ _ c.in_ok-sorted.ensures
    (c.in_ok-sort_by.ensures.sorted (lies_first s) (lies_in_order s) (always_returns_same _ _ _ (λ a r f k. search rules)))
    (c.in_ok-sort_by.ensures.stable (lies_first s) (lies_in_order s) (always_returns_same _ _ _ (λ a r f k. search rules)))
