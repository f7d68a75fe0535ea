-- With which step a list of races has a step.
use Rattle.std.specs.Prelude.{ℕ, ◌<◌, ◌==◌, if◌then◌else◌, Bool, false, List, [], ◌∷◌, AllPairs, IfSome}
use Rattle.std.specs.Prelude.{Option, None, Some}
use Rattle.std.specs.List.{find}
use Rattle.std.specs.Option.{option_map}
use Rattle.mr_event.specs.declared.footprint.Pair.{Pair}

-- the second steps of a list of races rise, so each is there once
abbrev pub IsRising : List Pair → Type 0
IsRising pairs = AllPairs (λ p q. p.second < q.second) pairs

-- whether the second step of a race is this one
abbrev pub is_of : ℕ → Pair → Bool
is_of step pair = pair.second == step

abbrev pub first_step : Pair → ℕ
first_step pair = pair.first

-- THE STEP with which a list has a step, if it has it
abbrev pub partner : List Pair → ℕ → Option ℕ
partner pairs step = option_map first_step (find (is_of step) pairs)

-- the first step of a race, where the second is this one
abbrev pub first_of : ℕ → Option Pair → Option ℕ
first_of step None = None
first_of step (Some pair) = if pair.second == step then Some pair.first else None

-- whether it is this step
abbrev pub is_step : ℕ → Option ℕ → Bool
is_step step None = false
is_step step (Some other) = other == step

-- whether a list has a race
abbrev pub has : List Pair → Pair → Bool
has pairs pair = is_step pair.first (partner pairs pair.second)

-- the first list, or the other where that is empty
abbrev pub either : List Pair → List Pair → List Pair
either [] others = others
either (pair ∷ pairs) others = pair ∷ pairs

-- a list has the second step of a race with no step behind the first one, and not with the first one either
abbrev pub IsUnlisted : List Pair → Pair → Type 0
IsUnlisted pairs pair = IfSome (partner pairs pair.second) (λ other. other < pair.first)
