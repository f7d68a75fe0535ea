use Rattle.mr_listing.proofs.Common.{◌∙◌, List, ap, subst, sym, nat_le, nat_lt, not, filter, IsNonDecreasingBy, seen, place_index, Numbered}
use Rattle.std.proofs.lemmas.List.Kept.{IsNonDecreasingBy-filter}
use Rattle.mr_listing.proofs.AlikeLaws.{of_one_place}
use Rattle.mr_listing.proofs.sorted.alike_races.Goals as goal

pub from_places-requires : goal.from_places-requires
from_places-requires c = c.requires.rising c.args.pair

pub up_to_places-requires : goal.up_to_places-requires
up_to_places-requires c =
    let s = seen c.args.shown.now in
    subst (λ (xs : List Numbered). IsNonDecreasingBy (place_index s c.args.pair) xs) (sym c.from_places.ensures)
    (IsNonDecreasingBy-filter (place_index s c.args.pair) (λ (n : Numbered). not (nat_lt (place_index s c.args.pair n) 1))
    c.args.sorted.now (c.requires.rising c.args.pair))

pub returns : goal.returns
returns c =
    let s = seen c.args.shown.now in
    c.up_to_places.ensures ∙ ap (filter (λ (n : Numbered). nat_le (place_index s c.args.pair n) 1)) c.from_places.ensures
    ∙ of_one_place s c.args.pair c.args.sorted.now ∙ c.requires.alike c.args.pair
