-- Facts on each element of a list, on each element and the later ones, and on neighbours, by recursion on the list.
use Rattle.mr_exchange.proofs.Common.{◌≡◌, ℕ, suc, zero, ◌<◌, ◌≤◌, ◌+◌, List, [], ◌∷◌, ◌++◌, length, get_or, Bool, true, false, refl, sym, ap, subst, inl, inr, arith, zero-add, ℕ_discrete, filter, range_with_len, cases_Bool}
use Rattle.std.proofs.Common.{add-zero}
use Rattle.mr_exchange.specs.Shown.{NextIs, AreAdjacent}

-- P holds of each element
abbrev pub Each : {X : Type 0} → (X → Type 0) → List X → Type 0
Each P [] = Unit {0}
Each P (x ∷ xs) = P x × Each P xs

-- R holds of each element and each later one
abbrev pub Ahead : {X : Type 0} → (X → X → Type 0) → List X → Type 0
Ahead R [] = Unit {0}
Ahead R (x ∷ xs) = Each (R x) xs × Ahead R xs

pub Each-weaker : {X : Type 0} (P Q : X → Type 0) → ((x : X) → P x → Q x) → (xs : List X) → Each P xs → Each Q xs
Each-weaker P Q f [] h = tt
Each-weaker P Q f (x ∷ xs) h = (f x h.0, Each-weaker P Q f xs h.1)

pub Each-append : {X : Type 0} (P : X → Type 0) (xs ys : List X) → Each P xs → Each P ys → Each P (xs ++ ys)
Each-append P [] ys h k = k
Each-append P (x ∷ xs) ys h k = (h.0, Each-append P xs ys h.1 k)

pub Each-left : {X : Type 0} (P : X → Type 0) (xs ys : List X) → Each P (xs ++ ys) → Each P xs
Each-left P [] ys h = tt
Each-left P (x ∷ xs) ys h = (h.0, Each-left P xs ys h.1)

pub Each-right : {X : Type 0} (P : X → Type 0) (xs ys : List X) → Each P (xs ++ ys) → Each P ys
Each-right P [] ys h = h
Each-right P (x ∷ xs) ys h = Each-right P xs ys h.1

pub Each-both : {X : Type 0} (P Q : X → Type 0) (xs : List X) → Each P xs → Each Q xs → Each (λ x. P x × Q x) xs
Each-both P Q [] h k = tt
Each-both P Q (x ∷ xs) h k = ((h.0, k.0), Each-both P Q xs h.1 k.1)

pub Each-at : (P : ℕ → Type 0) (xs : List ℕ) → Each P xs → (k d : ℕ) → k < length xs → P (get_or xs k d)
Each-at P [] f k d h = absurd (omega arith)
Each-at P (x ∷ xs) f zero d h = f.0
Each-at P (x ∷ xs) f (suc k) d h = Each-at P xs f.1 k d (omega arith)

pub Ahead-weaker : {X : Type 0} (R S : X → X → Type 0) → ((x y : X) → R x y → S x y) → (xs : List X) → Ahead R xs → Ahead S xs
Ahead-weaker R S f [] h = tt
Ahead-weaker R S f (x ∷ xs) h = (Each-weaker (R x) (S x) (f x) xs h.0, Ahead-weaker R S f xs h.1)

pub filter-kept : {X : Type 0} (p : X → Bool) (x : X) (xs : List X) → p x ≡ true → filter p (x ∷ xs) ≡ x ∷ filter p xs
filter-kept p x xs e = rw e

pub filter-left_out : {X : Type 0} (p : X → Bool) (x : X) (xs : List X) → p x ≡ false → filter p (x ∷ xs) ≡ filter p xs
filter-left_out p x xs e = rw e

-- a test keeps facts on each element, and adds that the test passes
pub Each-filter : {X : Type 0} (P : X → Type 0) (p : X → Bool) (xs : List X) → Each P xs → Each (λ x. P x × (p x ≡ true)) (filter p xs)
Each-filter P p [] h = tt
Each-filter P p (x ∷ xs) h =
    elim (cases_Bool (p x)) [
      | inl e ↦ rw (filter-kept p x xs e) ((h.0, e), Each-filter P p xs h.1)
      | inr e ↦ rw (filter-left_out p x xs e) (Each-filter P p xs h.1)
    ]

-- and facts on pairs
pub Ahead-filter : {X : Type 0} (R : X → X → Type 0) (p : X → Bool) (xs : List X) → Ahead R xs → Ahead R (filter p xs)
Ahead-filter R p [] h = tt
Ahead-filter R p (x ∷ xs) h =
    elim (cases_Bool (p x)) [
      | inl e ↦ rw (filter-kept p x xs e) (Each-weaker _ _ (λ y k. k.0) (filter p xs) (Each-filter (R x) p xs h.0), Ahead-filter R p xs h.1)
      | inr e ↦ rw (filter-left_out p x xs e) (Ahead-filter R p xs h.1)
    ]

-- two tests that agree on each element keep the same elements
pub filter-agree : {X : Type 0} (p q : X → Bool) (xs : List X) → Each (λ x. p x ≡ q x) xs → filter p xs ≡ filter q xs
filter-agree p q [] h = refl
filter-agree p q (x ∷ xs) h = rw (h.0, filter-agree p q xs h.1)

-- an element in the middle is behind each of the first part
pub Ahead-middle : {X : Type 0} (R : X → X → Type 0) (xs : List X) (x : X) (ys : List X) → Ahead R (xs ++ x ∷ ys) → Each (λ y. R y x) xs
Ahead-middle R [] x ys h = tt
Ahead-middle R (z ∷ xs) x ys h = ((Each-right (R z) xs (x ∷ ys) h.0).0, Ahead-middle R xs x ys h.1)

pub Ahead-without : {X : Type 0} (R : X → X → Type 0) (xs : List X) (x : X) (ys : List X) → Ahead R (xs ++ x ∷ ys) → Ahead R (xs ++ ys)
Ahead-without R [] x ys h = h.1
Ahead-without R (z ∷ xs) x ys h =
    (Each-append (R z) xs ys (Each-left (R z) xs (x ∷ ys) h.0) (Each-right (R z) xs (x ∷ ys) h.0).1, Ahead-without R xs x ys h.1)

pub Each-with : {X : Type 0} (P : X → Type 0) (xs : List X) (x : X) (ys : List X) → P x → Each P (xs ++ ys) → Each P (xs ++ x ∷ ys)
Each-with P xs x ys k h = Each-append P xs (x ∷ ys) (Each-left P xs ys h) (k, Each-right P xs ys h)

-- the places from a on are below a + n, and each is below the later ones
pub Each-places : (a n : ℕ) → Each (λ k. (a ≤ k) × (k < a + n)) (range_with_len a n)
Each-places a zero = tt
Each-places a (suc n) = ((omega arith, omega arith), Each-weaker _ _ (λ k h. (omega arith, omega arith)) (range_with_len (a + 1) n) (Each-places (a + 1) n))

pub Ahead-places : (a n : ℕ) → Ahead (λ i j. i < j) (range_with_len a n)
Ahead-places a zero = tt
Ahead-places a (suc n) = (Each-weaker (λ k. (a + 1 ≤ k) × (k < (a + 1) + n)) (λ k. a < k) (λ k h. omega (arith, h.0)) (range_with_len (a + 1) n) (Each-places (a + 1) n), Ahead-places (a + 1) n)

pub range_with_len-parts : (a n m : ℕ) → range_with_len a (n + m) ≡ range_with_len a n ++ range_with_len (a + n) m
range_with_len-parts a zero m = rw (zero-add, add-zero)
range_with_len-parts a (suc n) m =
    let e : suc n + m ≡ suc (n + m) = omega arith in
    let f : a + suc n ≡ (a + 1) + n = omega arith in
    rw (e, f) (ap (λ l. a ∷ l) (range_with_len-parts (a + 1) n m))

-- P holds of the last element
abbrev pub Ends : {X : Type 0} → (X → Type 0) → List X → Type 0
Ends P [] = Unit {0}
Ends P (x ∷ []) = P x
Ends P (x ∷ (y ∷ ys)) = Ends P (y ∷ ys)

pub AreAdjacent-with : {X : Type 0} (P : X → Type 0) (R S : X → X → Type 0) → ((x y : X) → P x → P y → R x y → S x y) → (xs : List X) → Each P xs → AreAdjacent R xs → AreAdjacent S xs
AreAdjacent-with P R S f [] h k = tt
AreAdjacent-with P R S f (x ∷ []) h k = (tt, tt)
AreAdjacent-with P R S f (x ∷ (y ∷ ys)) h k = (f x y h.0 h.1.0 k.0, AreAdjacent-with P R S f (y ∷ ys) h.1 k.1)

pub Ends-with : {X : Type 0} (P Q S : X → Type 0) → ((x : X) → P x → Q x → S x) → (xs : List X) → Each P xs → Ends Q xs → Ends S xs
Ends-with P Q S f [] h k = tt
Ends-with P Q S f (x ∷ []) h k = f x h.0 k
Ends-with P Q S f (x ∷ (y ∷ ys)) h k = Ends-with P Q S f (y ∷ ys) h.1 k

pub AreAdjacent-push : {X : Type 0} (R : X → X → Type 0) (xs : List X) (y : X) → AreAdjacent R xs → Ends (λ x. R x y) xs → AreAdjacent R (xs ++ y ∷ [])
AreAdjacent-push R [] y h k = (tt, tt)
AreAdjacent-push R (x ∷ []) y h k = (k, (tt, tt))
AreAdjacent-push R (x ∷ (z ∷ zs)) y h k = (h.0, AreAdjacent-push R (z ∷ zs) y h.1 k)

pub Ahead-with : {X : Type 0} (P : X → Type 0) (R : X → X → Type 0) (xs : List X) → Each P xs → Ahead R xs → Ahead (λ x y. R x y × P x × P y) xs
Ahead-with P R [] h k = tt
Ahead-with P R (x ∷ xs) h k =
    (Each-weaker _ _ (λ y a. (a.0, h.0, a.1)) xs (Each-both (R x) P xs k.0 h.1), Ahead-with P R xs h.1 k.1)

-- nothing strictly between x and y passes the test
abbrev pub NoneBetween : (ℕ → Bool) → ℕ → ℕ → Type 0
NoneBetween p x y = (c : ℕ) → x < c → c < y → p c ≡ false

NoneBetween-more : (p : ℕ → Bool) (x a : ℕ) → NoneBetween p x a → p a ≡ false → NoneBetween p x (a + 1)
NoneBetween-more p x a gap e c low high =
    elim (ℕ_discrete c a) [
      | yes same ↦ subst (λ (k : ℕ). p k ≡ false) (sym same) e
      | no other ↦ gap c low (omega arith)
    ]

next_gap : (p : ℕ → Bool) (x a n : ℕ) → x < a → NoneBetween p x a → NextIs (λ i j. (i < j) × NoneBetween p i j) x (filter p (range_with_len a n))
next_gap p x a zero lt gap = tt
next_gap p x a (suc n) lt gap =
    elim (cases_Bool (p a)) [
      | inl e ↦ rw (filter-kept p a (range_with_len (a + 1) n) e) (lt, gap)
      | inr e ↦ rw (filter-left_out p a (range_with_len (a + 1) n) e) (next_gap p x (a + 1) n (omega arith) (NoneBetween-more p x a gap e))
    ]

-- between neighbours of what a test keeps nothing passes it
pub AreAdjacent-gaps : (p : ℕ → Bool) (a n : ℕ) → AreAdjacent (λ i j. (i < j) × NoneBetween p i j) (filter p (range_with_len a n))
AreAdjacent-gaps p a zero = tt
AreAdjacent-gaps p a (suc n) =
    elim (cases_Bool (p a)) [
      | inl e ↦ rw (filter-kept p a (range_with_len (a + 1) n) e) (next_gap p a (a + 1) n (omega arith) (λ c low high. absurd (omega arith)), AreAdjacent-gaps p (a + 1) n)
      | inr e ↦ rw (filter-left_out p a (range_with_len (a + 1) n) e) (AreAdjacent-gaps p (a + 1) n)
    ]

ends_gap_from : (p : ℕ → Bool) (x a n : ℕ) → NoneBetween p x a → Ends (λ i. NoneBetween p i (a + n)) (x ∷ filter p (range_with_len a n))
ends_gap_from p x a zero gap = rw add-zero gap
ends_gap_from p x a (suc n) gap =
    let e' : a + suc n ≡ (a + 1) + n = omega arith in
    elim (cases_Bool (p a)) [
      | inl e ↦ rw (e', filter-kept p a (range_with_len (a + 1) n) e) (ends_gap_from p a (a + 1) n (λ c low high. absurd (omega arith)))
      | inr e ↦ rw (e', filter-left_out p a (range_with_len (a + 1) n) e) (ends_gap_from p x (a + 1) n (NoneBetween-more p x a gap e))
    ]

-- behind the last that a test keeps nothing passes it
pub Ends-gap : (p : ℕ → Bool) (a n : ℕ) → Ends (λ i. NoneBetween p i (a + n)) (filter p (range_with_len a n))
Ends-gap p a zero = tt
Ends-gap p a (suc n) =
    let e' : a + suc n ≡ (a + 1) + n = omega arith in
    elim (cases_Bool (p a)) [
      | inl e ↦ rw (e', filter-kept p a (range_with_len (a + 1) n) e) (ends_gap_from p a (a + 1) n (λ c low high. absurd (omega arith)))
      | inr e ↦ rw (e', filter-left_out p a (range_with_len (a + 1) n) e) (Ends-gap p (a + 1) n)
    ]
