-- What a list has at a place: behind another list, in a part of it, and where one element is replaced.
use Rattle.std.proofs.Common.{◌≡◌, ◌≢◌, ℕ, zero, suc, ◌+◌, ◌-◌, ◌<◌, ◌≤◌, List, [], ◌∷◌, ◌++◌, length, take, drop, Some, refl, sym, ap, subst, ◌∙◌, arith}
use Rattle.std.specs.Prelude.{All, Any, slice_get, slice_set}
use Rattle.std.proofs.lemmas.Option.{get_or_from_slice_get, slice_get_within}
use Rattle.std.proofs.lemmas.List.Elements.{Contains-append_left}

-- below its length a list has an element
pub item_there : {A : Type 0} (xs : List A) (i : ℕ) → i < length xs → (x : A) × (slice_get xs i ≡ Some x)
item_there [] i lt = absurd (omega arith)
item_there (x ∷ xs) zero lt = (x, refl)
item_there (x ∷ xs) (suc i) lt = item_there xs i (omega arith)

-- what holds of all holds of the one at a place
pub all_at : {A : Type 0} (P : A → Type 0) (xs : List A) (i : ℕ) (x : A) → All P xs → slice_get xs i ≡ Some x → P x
all_at P xs i x all e = subst P (get_or_from_slice_get xs i x x e) (all i x (slice_get_within xs i x e))

-- ---- two lists, one behind the other, and parts of a list

pub slice_get-append_left : {A : Type 0} (xs ys : List A) (k : ℕ) → k < length xs → slice_get (xs ++ ys) k ≡ slice_get xs k
slice_get-append_left [] ys k h = absurd (omega arith)
slice_get-append_left (x ∷ xs) ys zero h = refl
slice_get-append_left (x ∷ xs) ys (suc k) h = slice_get-append_left xs ys k (omega arith)

pub slice_get-append_right : {A : Type 0} (xs ys : List A) (k : ℕ) → length xs ≤ k → slice_get (xs ++ ys) k ≡ slice_get ys (k - length xs)
slice_get-append_right [] ys k h = let e : k ≡ k - 0 = omega arith in ap (slice_get ys) e
slice_get-append_right (x ∷ xs) ys zero h = absurd (omega arith)
slice_get-append_right (x ∷ xs) ys (suc k) h =
    let e : k - length xs ≡ suc k - suc (length xs) = omega arith in
    slice_get-append_right xs ys k (omega arith) ∙ ap (slice_get ys) e

pub slice_get-take : {A : Type 0} (xs : List A) (n k : ℕ) → k < n → slice_get (take n xs) k ≡ slice_get xs k
slice_get-take xs zero k h = absurd (omega arith)
slice_get-take [] (suc n) k h = refl
slice_get-take (x ∷ xs) (suc n) zero h = refl
slice_get-take (x ∷ xs) (suc n) (suc k) h = slice_get-take xs n k (omega arith)

pub slice_get-drop : {A : Type 0} (xs : List A) (n k : ℕ) → slice_get (drop n xs) k ≡ slice_get xs (n + k)
slice_get-drop xs zero k = let e : k ≡ 0 + k = omega arith in ap (slice_get xs) e
slice_get-drop [] (suc n) k = refl
slice_get-drop (x ∷ xs) (suc n) k =
    let e : suc n + k ≡ suc (n + k) = omega arith in
    slice_get-drop xs n k ∙ ap (slice_get (x ∷ xs)) (sym e)

pub Any-append_left : {A : Type 0} (P : A → Type 0) (xs ys : List A) → Any P xs → Any P (xs ++ ys)
Any-append_left P xs ys h = let c = Contains-append_left xs ys h.1 (h.0, h.2, h.3) in (c.0, h.1, c.1, c.2, h.4)

-- ---- one element replaced

pub set_there : {A : Type 0} (xs : List A) (i k : ℕ) (x : A) → k ≢ i → slice_get (slice_set xs i x) k ≡ slice_get xs k
set_there [] i k x d = refl
set_there (y ∷ xs) zero zero x d = absurd (d refl)
set_there (y ∷ xs) zero (suc k) x d = refl
set_there (y ∷ xs) (suc i) zero x d = refl
set_there (y ∷ xs) (suc i) (suc k) x d = set_there xs i k x (λ e. d (ap suc e))
