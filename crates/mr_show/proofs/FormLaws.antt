-- Words that no form has.
use Rattle.mr_show.proofs.Common.{◌≡◌, ℕ, ◌≤◌, List, [], ◌∷◌, None, arith, length, refl}
use Rattle.mr_show.specs.Form.{long_form}

-- no form has more than seven words
pub long_none : (word program third fourth fifth : List ℕ) (rest : List (List ℕ)) → 3 ≤ length rest
    → long_form word program third fourth fifth rest ≡ None
long_none word program third fourth fifth [] le = absurd (omega (arith, le))
long_none word program third fourth fifth (aim ∷ []) le = absurd (omega (arith, le))
long_none word program third fourth fifth (aim ∷ text ∷ []) le = absurd (omega (arith, le))
long_none word program third fourth fifth (aim ∷ text ∷ more ∷ rest) le = refl
