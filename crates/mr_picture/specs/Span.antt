-- The steps of a part of a run, by their numbers.
use Rattle.std.specs.Prelude.{ℕ, ◌-◌, ◌&&◌, Bool, List, nat_le, nat_lt}
use Rattle.std.specs.List.{filter, range_with_len}
use Rattle.mr_event.specs.declared.footprint.Pair.{Pair}
use Rattle.mr_picture.specs.declared.span.Span.{Span}

-- whether a step is one of a part
abbrev pub is_in : Span → ℕ → Bool
is_in span step = nat_le span.from step && nat_lt step span.to

-- the steps of a part, in order
abbrev pub steps_in : Span → List ℕ
steps_in span = range_with_len span.from (span.to - span.from)

-- whether both steps of a race are in a part
abbrev pub holds_race : Span → Pair → Bool
holds_race span race = is_in span race.first && is_in span race.second

-- THE RACES OF A PART: those of these both of whose steps are in it
abbrev pub races_in : Span → List Pair → List Pair
races_in span races = filter (holds_race span) races
