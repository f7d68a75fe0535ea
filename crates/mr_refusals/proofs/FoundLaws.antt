-- What is found in a list, from a position on.
use Rattle.std.proofs.Common.{◌≡◌, ℕ, zero, suc, ◌+◌, Bool, true, false, List, [], ◌∷◌, drop, sym, ap, ◌∙◌, arith}
use Rattle.std.specs.Prelude.{cond, Option, Some, slice_get}
use Rattle.std.specs.List.{find}

-- what is found from a position on
pub found_from : {X : Type 0} (test : X → Bool) (xs : List X) (i : ℕ) (x : X) → slice_get xs i ≡ Some x
    → find test (drop i xs) ≡ cond (test x) (Some x) (find test (drop (suc i) xs))
found_from test [] i x at = absurd (cc)
found_from test (y ∷ xs) zero x at = let same : y ≡ x = cc in ap (λ z. find test (z ∷ xs)) same
found_from test (y ∷ xs) (suc i) x at = found_from test xs i x at

-- an element that doesn't pass is passed by
pub not_here : {X : Type 0} (test : X → Bool) (xs : List X) (i : ℕ) (x : X) (found : Option X) → slice_get xs i ≡ Some x
    → test x ≡ false → find test (drop i xs) ≡ found → find test (drop (i + 1) xs) ≡ found
not_here test xs i x found at fails all =
    let one : i + 1 ≡ suc i = omega arith in
    ap (λ k. find test (drop k xs)) one ∙ sym (ap (λ b. cond b (Some x) (find test (drop (suc i) xs))) fails)
    ∙ sym (found_from test xs i x at) ∙ all

-- and one that does is found
pub found_here : {X : Type 0} (test : X → Bool) (xs : List X) (i : ℕ) (x : X) (found : Option X)
    → slice_get xs i ≡ Some x → test x ≡ true → find test (drop i xs) ≡ found → Some x ≡ found
found_here test xs i x found at passes all =
    sym (ap (λ b. cond b (Some x) (find test (drop (suc i) xs))) passes) ∙ sym (found_from test xs i x at) ∙ all
