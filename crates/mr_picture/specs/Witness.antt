-- The steps of a part of a run in the order of the witness for a race.
use Rattle.std.specs.Prelude.{ℕ, ◌-◌, ◌==◌, ◌&&◌, ◌||◌, Bool, not, nat_lt, List, [], ◌∷◌, ◌++◌}
use Rattle.std.specs.List.{filter, range_with_len}
use Rattle.mr_event.specs.Footprint.{Footprint}
use Rattle.mr_event.specs.declared.footprint.Pair.{Pair}
use Rattle.mr_event.specs.Predicted.{happens_before}
use Rattle.mr_picture.specs.declared.span.Span.{Span}
use Rattle.mr_picture.specs.Span.{steps_in}

-- whether a step isn't the first one of a race, which doesn't happen before it either
abbrev pub is_other : List Footprint → Pair → ℕ → Bool
is_other run race k = not (happens_before run race.first k) && not (k == race.first)

-- THE WITNESS from a place on: the steps before the second one of the race that its first one doesn't happen before,
-- and then these two
abbrev pub witness_steps : List Footprint → Pair → ℕ → List ℕ
witness_steps run race from =
    filter (is_other run race) (range_with_len from (race.second - from)) ++ race.first ∷ race.second ∷ []

-- whether the witness leaves a step out: it comes behind the race, or the race's first step happens before it
abbrev pub is_left_out : List Footprint → Pair → ℕ → Bool
is_left_out run race k = nat_lt race.second k || (nat_lt k race.second && happens_before run race.first k)

-- THE STEPS OF A PART THAT IT LEAVES OUT
abbrev pub left_out : List Footprint → Pair → Span → List ℕ
left_out run race span = filter (is_left_out run race) (steps_in span)
