-- With which steps a step races, as it is told beside it, behind a line feed.
use Rattle.std.specs.Prelude.{ℕ, ◌+◌, ◌==◌, ◌||◌, Bool, if◌then◌else◌, List, [], ◌++◌, count_by, drop, flat_map, codes, decimal}
use Rattle.std.specs.List.{filter}
use Rattle.mr_event.specs.declared.footprint.Pair.{Pair}

-- whether it is the second step of a race, or the first one
abbrev pub is_second : ℕ → Pair → Bool
is_second step race = race.second == step

abbrev pub is_first : ℕ → Pair → Bool
is_first step race = race.first == step

abbrev pub takes_part : ℕ → Pair → Bool
takes_part step race = race.second == step || race.first == step

-- a step with which another one races, counted from 1, behind a comma
unfoldable pub partner_text : ℕ → List ℕ
partner_text step = codes ", " ++ decimal (step + 1)

abbrev pub first_text : Pair → List ℕ
first_text race = partner_text race.first

abbrev pub second_text : Pair → List ℕ
second_text race = partner_text race.second

-- all of them
abbrev pub partner_texts : List Pair → ℕ → List ℕ
partner_texts races step =
    flat_map first_text (filter (is_second step) races) ++ flat_map second_text (filter (is_first step) races)

-- what stands before so many steps
unfoldable pub lead : ℕ → List ℕ
lead count =
    if count == 0 then []
    else (if count == 1 then codes "\nraces with step " else codes "\nraces with steps ")

-- THE STEPS WITH WHICH A STEP RACES, of these races: `races with step 7`, or `races with steps 7, 12`
abbrev pub partners : List Pair → ℕ → List ℕ
partners races step = lead (count_by (takes_part step) races) ++ drop 2 (partner_texts races step)
