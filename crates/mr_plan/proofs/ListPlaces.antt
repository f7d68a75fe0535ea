-- What a list has at each place: two lists, one behind the other, and a part of a list.
use Rattle.mr_plan.proofs.Common.{◌≡◌, ℕ, zero, suc, ◌+◌, ◌<◌, ◌≤◌, refl, sym, ap, ◌∙◌, List, [], ◌∷◌, take, drop, arith, Some, None, slice_get}

-- lists with the same at each place are one
pub same_by_places : {A : Type 0} (xs ys : List A) → ((k : ℕ) → slice_get xs k ≡ slice_get ys k) → xs ≡ ys
same_by_places [] [] h = refl
same_by_places [] (y ∷ ys) h = let e : None ≡ Some y = h zero in cc
same_by_places (x ∷ xs) [] h = let e : Some x ≡ None = h zero in cc
same_by_places (x ∷ xs) (y ∷ ys) h =
    let e : Some x ≡ Some y = h zero in
    let d : xs ≡ ys = same_by_places xs ys (λ k. h (suc k)) in cc

drop_nil : {A : Type 0} (i : ℕ) → drop {A = A} i [] ≡ []
drop_nil zero = refl
drop_nil (suc i) = refl

-- lists with the same at the places of a part have the same part there
pub same_part : {A : Type 0} (xs ys : List A) (i n : ℕ) → ((k : ℕ) → i ≤ k → k < i + n → slice_get xs k ≡ slice_get ys k) → take n (drop i xs) ≡ take n (drop i ys)
same_part [] [] i n h = refl
same_part xs ys zero zero h = refl
same_part [] (y ∷ ys) zero (suc n) h = let e : None ≡ Some y = h zero (omega arith) (omega arith) in cc
same_part (x ∷ xs) [] zero (suc n) h = let e : Some x ≡ None = h zero (omega arith) (omega arith) in cc
same_part (x ∷ xs) (y ∷ ys) zero (suc n) h =
    let e : Some x ≡ Some y = h zero (omega arith) (omega arith) in
    let d : take n xs ≡ take n ys = same_part xs ys zero n (λ k a b. h (suc k) (omega arith) (omega arith)) in cc
same_part [] (y ∷ ys) (suc i) n h = ap (take n) (sym (drop_nil i)) ∙ same_part [] ys i n (λ k a b. h (suc k) (omega arith) (omega arith))
same_part (x ∷ xs) [] (suc i) n h = same_part xs [] i n (λ k a b. h (suc k) (omega arith) (omega arith)) ∙ ap (take n) (drop_nil i)
same_part (x ∷ xs) (y ∷ ys) (suc i) n h = same_part xs ys i n (λ k a b. h (suc k) (omega arith) (omega arith))
