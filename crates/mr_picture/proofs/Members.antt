-- The elements of lists that are put together.
use Rattle.mr_picture.proofs.Common.{◌≡◌, ℕ, zero, suc, ◌+◌, ◌-◌, ◌<◌, ◌≤◌, inl, inr, Bool, true, false, List, [], ◌∷◌, refl, sym, subst, ◌∙◌, arith, Contains-append_right, Contains-append_cases, flat_map, if◌then◌else◌, Contains, range_with_len}
use Rattle.std.proofs.lemmas.List.Elements.{Contains-append_left}
use Rattle.std.proofs.lemmas.List.FromFn.{get_or-range_with_len, length-range_with_len}

-- the element of a list of one
pub only : {X : Type 0} (x y : X) → Contains (x ∷ []) y → x ≡ y
only x y (zero, inside, is) = is
only x y (suc k, inside, is) = absurd (omega (arith, inside))

pub none : {X : Type 0} (y : X) → ¬ Contains [] y
none y (k, inside, is) = omega (arith, inside)

pub first_of : {X : Type 0} (x : X) (xs : List X) → Contains (x ∷ xs) x
first_of x xs = (0, omega arith, refl)

-- an element of lists that were joined is one of one of them
pub from_flat : {X Y : Type 0} (f : X → List Y) (xs : List X) (y : Y) → Contains (flat_map f xs) y
    → (x : X) × Contains xs x × Contains (f x) y
from_flat f [] y h = absurd (none y h)
from_flat f (x ∷ xs) y h =
    elim (Contains-append_cases (f x) (flat_map f xs) y h) [
      | inl here ↦ (x, first_of x xs, here)
      | inr later ↦
          let t = from_flat f xs y later in (t.0, Contains-append_right (x ∷ []) xs t.0 t.1, t.2)
    ]

pub into_flat : {X Y : Type 0} (f : X → List Y) (xs : List X) (x : X) (y : Y) → Contains xs x → Contains (f x) y
    → Contains (flat_map f xs) y
into_flat f [] x y h g = absurd (none x h)
into_flat f (z ∷ xs) x y h g =
    elim (Contains-append_cases (z ∷ []) xs x h) [
      | inl here ↦
          Contains-append_left (f z) (flat_map f xs) y (subst (λ w. Contains (f w) y) (sym (only z x here)) g)
      | inr later ↦ Contains-append_right (f z) (flat_map f xs) y (into_flat f xs x y later g)
    ]

-- the numbers from one on
pub from_range : (a n k : ℕ) → Contains (range_with_len a n) k → (a ≤ k) × (k < a + n)
from_range a n k (i, inside, is) =
    let all = length-range_with_len a n in
    let at = get_or-range_with_len a n i k (omega (arith, inside, all)) in
    (omega (arith, at, is), omega (arith, at, is, inside, all))

pub into_range : (a n k : ℕ) → a ≤ k → k < a + n → Contains (range_with_len a n) k
into_range a n k low high =
    let all = length-range_with_len a n in
    let inside : k - a < n = omega (arith, low, high) in
    let there : a + (k - a) ≡ k = omega (arith, low) in
    (k - a, omega (arith, all, inside), get_or-range_with_len a n (k - a) k inside ∙ there)

-- the element of a list of one that is there by a test
pub tested : {X : Type 0} (b : Bool) (x y : X) → Contains (if b then x ∷ [] else []) y → (b ≡ true) × (x ≡ y)
tested true x y h = (refl, only x y h)
tested false x y h = absurd (none y h)

pub passed : {X : Type 0} (b : Bool) (x : X) → b ≡ true → Contains (if b then x ∷ [] else []) x
passed true x e = first_of x []
passed false x e = absurd (cc)
