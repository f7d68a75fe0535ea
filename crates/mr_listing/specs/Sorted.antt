-- The races in the order of their places: how the code finds those of one pair of places, and the first of them.
use Rattle.std.specs.Prelude.{◌≡◌, ℕ, ◌+◌, Bool, false, nat_lt, List, [], ◌∷◌, Option, None, Some, slice_get}
use Rattle.std.specs.List.{filter}
use Rattle.std.specs.List.Sorted.{IsNonDecreasingBy}
use Rattle.std.specs.Option.{option_cmp}
use Rattle.std.specs.Ordering.{nat_cmp, ordering_index, ordering_then}
use Rattle.std.specs.declared.cmp.Ordering.{Ordering}
use Rattle.mr_event.specs.declared.footprint.Pair.{Pair}
use Rattle.mr_labels.specs.declared.step.Stand.{Stand}
use Rattle.mr_listing.specs.declared.sorted.Numbered.{Numbered}
use Rattle.mr_listing.specs.Races.{before_of, same_places}
use Rattle.mr_listing.specs.Seen.{Seen}

-- how one statement lies to another: by their functions, then by their blocks, then by their positions
abbrev pub spot_cmp : Stand → Stand → Ordering
spot_cmp a b =
    ordering_then (ordering_then (nat_cmp a.function b.function) (nat_cmp a.block b.block)) (nat_cmp a.at b.at)

-- how one place lies to another: nowhere lies before all
abbrev pub stand_cmp : Option Stand → Option Stand → Ordering
stand_cmp a b = option_cmp spot_cmp a b

-- how the places of one race lie to those of another: by those of the first steps, then by those of the second ones
abbrev pub places_cmp : Seen → Pair → Pair → Ordering
places_cmp s a b =
    ordering_then
    (stand_cmp (before_of (slice_get s.stands a.first)) (before_of (slice_get s.stands b.first)))
    (stand_cmp (before_of (slice_get s.stands a.second)) (before_of (slice_get s.stands b.second)))

-- the same as a number: 0 is before them, 1 at them, 2 behind them
abbrev pub place_index : Seen → Pair → Numbered → ℕ
place_index s pair n = ordering_index (places_cmp s n.pair pair)

-- races with their numbers
abbrev pub with_numbers : ℕ → List Pair → List Numbered
with_numbers number [] = []
with_numbers number (pair ∷ pairs) = record { pair = pair; number = number } ∷ with_numbers (number + 1) pairs

-- whether it is of the places of a race
abbrev pub is_alike : Seen → Pair → Numbered → Bool
is_alike s pair n = same_places s pair n.pair

-- THE RACES BY THEIR PLACES; those of the same places stand in the order of the races
pub record AreByPlaces (s : Seen) (sorted : List Numbered) : Type 0 where
  pub rising : (pair : Pair) → IsNonDecreasingBy (place_index s pair) sorted
  pub alike : (pair : Pair) → filter (is_alike s pair) sorted ≡ filter (is_alike s pair) (with_numbers 0 s.races)

-- whether there is a first of them, and it has a lower number
abbrev pub begins_before : ℕ → Option Numbered → Bool
begins_before number None = false
begins_before number (Some first) = nat_lt first.number number
