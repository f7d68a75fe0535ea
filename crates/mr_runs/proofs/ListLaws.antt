-- Lists in a row: what stands first, what stands behind, and what stands at a position.
use Rattle.mr_runs.proofs.Common.{◌≡◌, ℕ, zero, suc, ◌+◌, ◌-◌, ◌≤◌, List, [], ◌∷◌, ◌++◌, length, take, drop, refl, sym, ap, ◌∙◌, arith}
use Rattle.std.proofs.lemmas.List.{drop-drop, drop_at}

pub take_in_append : {X : Type 0} (n : ℕ) (xs ys : List X) → take n (xs ++ ys) ≡ take n xs ++ take (n - length xs) ys
take_in_append zero xs ys = ap (λ k. take k ys) (zero_less (length xs))
  where
    zero_less : (k : ℕ) → 0 ≡ 0 - k
    zero_less k = omega arith
take_in_append (suc n) [] ys = ap (λ k. take k ys) (less_zero n)
  where
    less_zero : (k : ℕ) → suc k ≡ suc k - 0
    less_zero k = omega arith
take_in_append {X} (suc n) (x ∷ xs) ys =
    ap (λ (zs : List X). x ∷ zs) (take_in_append n xs ys)
    ∙ ap (λ k. x ∷ take n xs ++ take k ys) (both_less n (length xs))
  where
    both_less : (k l : ℕ) → k - l ≡ suc k - suc l
    both_less k l = omega arith

pub drop_in_append : {X : Type 0} (n : ℕ) (xs ys : List X) → length xs ≤ n → drop n (xs ++ ys) ≡ drop (n - length xs) ys
drop_in_append {X} n xs ys le =
    let split : length xs + (n - length xs) ≡ n = omega arith in
    ap (λ k. drop k (xs ++ ys)) (sym split)
    ∙ sym (drop-drop (n - length xs) (length xs) (xs ++ ys))
    ∙ ap (drop (n - length xs)) (drop_at xs ys (length xs) refl)
