-- What is shown of a line stands over the caret.
use Rattle.std.proofs.Common.{◌≡◌, ℕ, zero, suc, ◌+◌, ◌-◌, ◌<◌, ◌≤◌, List, [], ◌∷◌, drop, take, refl, ap, ◌∙◌, arith}
use Rattle.std.specs.Prelude.{slice_get}
use Rattle.std.specs.Option.{option_map}
use Rattle.std.proofs.lemmas.Bool.Decides.{nat_tests}
use Rattle.std.proofs.lemmas.Option.{slice_get-map}
use Rattle.mr_refusals.specs.Lines.{cut_from, shown_byte, shown_part}

pub get_drop : (xs : List ℕ) (n i : ℕ) → slice_get (drop n xs) i ≡ slice_get xs (n + i)
get_drop xs zero i = let same : i ≡ 0 + i = omega arith in ap (slice_get xs) same
get_drop [] (suc n) i = refl
get_drop (x ∷ xs) (suc n) i =
    let same : suc (n + i) ≡ suc n + i = omega arith in get_drop xs n i ∙ ap (slice_get (x ∷ xs)) same

pub get_take : (xs : List ℕ) (n i : ℕ) → i < n → slice_get (take n xs) i ≡ slice_get xs i
get_take xs zero i lt = absurd (omega (arith, lt))
get_take [] (suc n) i lt = refl
get_take (x ∷ xs) (suc n) zero lt = refl
get_take (x ∷ xs) (suc n) (suc i) lt = get_take xs n i (omega (arith, lt))

-- the shown part begins at most 119 bytes in front of the place
cut_near : (before : ℕ) → before - cut_from before < 120
cut_near before = grind (arith, nat_tests)

pub cut_le : (before : ℕ) → cut_from before ≤ before
cut_le before = grind (arith, nat_tests)

pub over_caret : (line : List ℕ) (before : ℕ)
    → slice_get (shown_part line (cut_from before)) (before - cut_from before)
    ≡ option_map shown_byte (slice_get line before)
over_caret line before =
    let from = cut_from before in
    let here : from + (before - from) ≡ before = omega (arith, cut_le before) in
    slice_get-map shown_byte (take 120 (drop from line)) (before - from)
    ∙ ap (option_map shown_byte)
    (get_take (drop from line) 120 (before - from) (cut_near before) ∙ get_drop line from (before - from)
    ∙ ap (slice_get line) here)
