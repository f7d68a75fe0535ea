-- What is left behind the first of some items.
use Rattle.std.proofs.Common.{◌≡◌, ◌<◌, ap, ◌∙◌, arith, List, [], ◌∷◌, ◌++◌, length, drop, refl}
use Rattle.std.specs.Prelude.{IsSome, Option, None, Some}
use Rattle.std.specs.Option.{option_to_list}

none_left : {A : Type 0} (xs : List A) → (0 < length xs → ⊥) → drop 1 xs ≡ xs
none_left [] h = refl
none_left (x ∷ xs) h = absurd (h (omega arith))

-- the first one is taken, where there is one
pub behind_first : {A : Type 0} (first : Option A) (old new : List A) → old ≡ option_to_list first ++ new → (0 < length old → IsSome first) → drop 1 old ≡ new
behind_first (Some x) old new e h = ap (drop 1) e
behind_first None old new e h = none_left old (λ some. let none = h some in absurd (cc)) ∙ e
