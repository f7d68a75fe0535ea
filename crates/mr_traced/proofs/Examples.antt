-- A file of places, and two races at one pair of places.
use Rattle.mr_traced.proofs.Common.{◌≡◌, ℕ, List, [], ◌∷◌, ◌++◌, Ok, refl, codes, None, Some, Pair, group_at, named_of, Seen}
use Rattle.std.proofs.Common.{Err}
use Rattle.mr_words.specs.AstWords.{is_number}
use Rattle.mr_traced.specs.declared.form.Site.{Site}
use Rattle.mr_traced.specs.Names.{site_text}
use Rattle.mr_traced.specs.declared.refusal.PlacesFault.TheVariants as fault
use Rattle.mr_traced.specs.declared.refusal.Untold.TheVariants as untold

abbrev line : List ℕ → List ℕ
line text = text ++ 10 ∷ []

abbrev file : List ℕ
file = line (codes "places 2") ++ line (codes "name a.c:9 in work") ++ line (codes "0") ++ line (codes "name n")
    ++ line (codes "0 1")

-- two names and two steps; the second one uses a variable
file_read : named_of file
    ≡ Ok (record {
      names = codes "a.c:9 in work" ∷ codes "n" ∷ [];
      sites = record { place = 0; variable = None } ∷ record { place = 0; variable = Some 1 } ∷ [];
    })
unfolding named_of is_number
file_read = refl

-- the header is missing, and a line is neither a name nor a step
no_header : named_of (line (codes "places 1")) ≡ Err (untold.Places fault.Header)
unfolding named_of
no_header = refl

two_blanks : named_of (line (codes "places 2") ++ line (codes "0") ++ line (codes "0  1"))
    ≡ Err (untold.Places (fault.Line 3))
unfolding named_of is_number
two_blanks = refl

-- ---- three steps at one place race

abbrev at : ℕ → Site
at place = record { place = place; variable = None }

abbrev race : ℕ → ℕ → Pair
race first second = record { first = first; second = second }

abbrev three : Seen
three = record {
  run = [];
  races = race 0 1 ∷ race 1 2 ∷ race 0 3 ∷ [];
  names = codes "a" ∷ (27 ∷ 66 ∷ []) ∷ [];
  sites = at 0 ∷ at 0 ∷ at 0 ∷ at 1 ∷ [];
}

-- the first two are of one pair of places, the third of another one
both_places : group_at three (record { first = 0; second = 0 }) three.races
    ≡ Some (record { first = race 0 1; count = 2 })
both_places = refl

other_places : group_at three (record { first = 0; second = 1 }) three.races
    ≡ Some (record { first = race 0 3; count = 1 })
other_places = refl

no_places : group_at three (record { first = 1; second = 0 }) three.races ≡ None
no_places = refl

-- a byte that isn't printable is a question mark
escaped : site_text three (Some (at 1)) ≡ codes "  ?B"
escaped = refl
