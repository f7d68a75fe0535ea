-- The steps with which steps race.
use Rattle.std.specs.Prelude.{◌≡◌, ℕ, ◌+◌, ◌==◌, Bool, List, [], ◌∷◌, ◌++◌, flat_map, codes, decimal}
use Rattle.std.specs.List.{filter}
use Rattle.std.specs.List.Sorted.{IsNonDecreasingBy}
use Rattle.mr_event.specs.declared.footprint.Pair.{Pair}
use Rattle.mr_listing.specs.declared.partners.Partner.{Partner}

-- each of the two steps of a race has the other one for a partner
abbrev pub both_of : Pair → List Partner
both_of pair =
    record { step = pair.second; other = pair.first } ∷ record { step = pair.first; other = pair.second } ∷ []

-- THE PARTNERS of the steps of all races
abbrev pub partners : List Pair → List Partner
partners races = flat_map both_of races

-- whether it is a partner of this step
abbrev pub is_of : ℕ → Partner → Bool
is_of number partner = partner.step == number

-- the partners of a step
abbrev pub partners_at : List Pair → ℕ → List Partner
partners_at races number = filter (is_of number) (partners races)

-- with which step it races; steps are counted from 1
abbrev pub partner_line : Partner → List ℕ
partner_line partner = codes "        races with step " ++ decimal (partner.other + 1) ++ codes "\n"

-- the partners by rising steps, those of each step in the order of the races
pub record ArePartners (races : List Pair) (sorted : List Partner) : Type 0 where
  pub rising : IsNonDecreasingBy (λ (p : Partner). p.step) sorted
  pub each : (number : ℕ) → filter (is_of number) sorted ≡ partners_at races number
