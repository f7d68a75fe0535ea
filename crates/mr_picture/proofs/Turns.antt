-- What loops over numbers keep.
use Rattle.mr_picture.proofs.Common.{◌≡◌, ℕ, zero, suc, ◌+◌, ◌-◌, ◌<◌, ◌≤◌, Bool, true, false, IsTrue, ◌↔◌, List, [], ◌∷◌, ◌++◌, refl, sym, ap, ◌∙◌, append_assoc, append-nil, arith, filter-append, ◌||◌, flat_map, if◌then◌else◌, max, filter, list_any, range_with_len, any_range_at}
use Rattle.std.proofs.lemmas.List.Folds.{list_any-append}

-- one number more
pub one_more : (a k : ℕ) → a ≤ k → range_with_len a (k + 1 - a) ≡ range_with_len a (k - a) ++ k ∷ []
one_more a k le = at a (k - a) k (omega (arith, le)) (omega (arith, le))
  where
    at : (a n k : ℕ) → a + n ≡ k → k + 1 - a ≡ n + 1 → range_with_len a (k + 1 - a) ≡ range_with_len a n ++ k ∷ []
    at a n k e f = ap (range_with_len a) f ∙ last a n k e
      where
        last : (a n k : ℕ) → a + n ≡ k → range_with_len a (n + 1) ≡ range_with_len a n ++ k ∷ []
        last a zero k e = let same : a ≡ k = omega (arith, e) in ap (λ j. j ∷ []) same
        last a (suc n) k e =
            let more : suc n + 1 ≡ suc (n + 1) = omega arith in
            ap (range_with_len a) more ∙ ap (λ xs. a ∷ xs) (last (a + 1) n k (omega (arith, e)))

-- none of the numbers passes so far
pub none_passes : (p : ℕ → Bool) (a k : ℕ) → a ≤ k → list_any p (range_with_len a (k - a)) ≡ false → p k ≡ false
    → list_any p (range_with_len a (k + 1 - a)) ≡ false
none_passes p a k le before here =
    ap (list_any p) (one_more a k le) ∙ list_any-append p (range_with_len a (k - a)) (k ∷ [])
    ∙ ap (λ b. b || (p k || false)) before ∙ ap (λ b. b || false) here

-- one passes
pub one_passes : (p : ℕ → Bool) (a k j : ℕ) → a ≤ k → k < j → p k ≡ true → list_any p (range_with_len a (j - a)) ≡ true
one_passes p a k j low high e = any_range_at p a (j - a) k low (omega (arith, low, high)) e

-- what one number more makes joins what the others made
pub joins : {X : Type 0} (f : ℕ → List X) (old now new : List X) (a k : ℕ) → a ≤ k
    → now ≡ old ++ flat_map f (range_with_len a (k - a)) → new ≡ now ++ f k
    → new ≡ old ++ flat_map f (range_with_len a (k + 1 - a))
joins f old now new a k le here more =
    more ∙ ap (λ xs. xs ++ f k) here ∙ append_assoc old (flat_map f (range_with_len a (k - a))) (f k)
    ∙ ap (λ xs. old ++ xs) (sym (parts f (range_with_len a (k - a)) k) ∙ ap (flat_map f) (sym (one_more a k le)))
  where
    parts : {X : Type 0} (f : ℕ → List X) (ks : List ℕ) (k : ℕ) → flat_map f (ks ++ k ∷ []) ≡ flat_map f ks ++ f k
    parts f [] k = append-nil (f k)
    parts f (j ∷ ks) k = ap (λ xs. f j ++ xs) (parts f ks k) ∙ sym (append_assoc (f j) (flat_map f ks) (f k))

-- from a number on up to a smaller one there is none
pub nothing : (a k : ℕ) → k ≤ a → range_with_len a (k - a) ≡ []
nothing a k le = let none : k - a ≡ 0 = omega (arith, le) in ap (range_with_len a) none

-- a number joins those that pass, or stays out
pub joins_those : (p : ℕ → Bool) (now : List ℕ) (a k : ℕ) → a ≤ k → now ≡ filter p (range_with_len a (k - a)) → p k ≡ true
    → now ++ k ∷ [] ≡ filter p (range_with_len a (k + 1 - a))
joins_those p now a k le here e =
    ap (λ xs. xs ++ k ∷ []) here ∙ ap (λ xs. filter p (range_with_len a (k - a)) ++ xs) (sym (kept p k e))
    ∙ sym (filter-append p (range_with_len a (k - a)) (k ∷ [])) ∙ ap (filter p) (sym (one_more a k le))
  where
    kept : (p : ℕ → Bool) (k : ℕ) → p k ≡ true → filter p (k ∷ []) ≡ k ∷ []
    kept p k e = rw e

pub stays_out : (p : ℕ → Bool) (now : List ℕ) (a k : ℕ) → a ≤ k → now ≡ filter p (range_with_len a (k - a)) → p k ≡ false
    → now ≡ filter p (range_with_len a (k + 1 - a))
stays_out p now a k le here e =
    here ∙ sym (append-nil (filter p (range_with_len a (k - a))))
    ∙ ap (λ xs. filter p (range_with_len a (k - a)) ++ xs) (sym (left p k e))
    ∙ sym (filter-append p (range_with_len a (k - a)) (k ∷ [])) ∙ ap (filter p) (sym (one_more a k le))
  where
    left : (p : ℕ → Bool) (k : ℕ) → p k ≡ false → filter p (k ∷ []) ≡ []
    left p k e = rw e

-- two tests of one fact answer alike
pub alike : (b c : Bool) (P : Type 0) → IsTrue b ↔ P → IsTrue c ↔ P → b ≡ c
alike true true P f g = refl
alike false false P f g = refl
alike true false P f g = sym (g.1 (f.0 refl))
alike false true P f g = f.1 (g.0 refl)

-- a loop that has come to its end has met all numbers
pub all_met : (a k b : ℕ) → a ≤ k → b ≤ k → k ≤ max a b → k - a ≡ b - a
all_met a k b low end high = omega (arith, low, end, high)

-- the same of a number that may pass
pub joins_tested : (p : ℕ → Bool) (now new : List ℕ) (a k : ℕ) (b : Bool) → a ≤ k → b ≡ p k
    → now ≡ filter p (range_with_len a (k - a)) → new ≡ now ++ (if b then k ∷ [] else [])
    → new ≡ filter p (range_with_len a (k + 1 - a))
joins_tested p now new a k true le is here more = more ∙ joins_those p now a k le here (sym is)
joins_tested p now new a k false le is here more = more ∙ append-nil now ∙ stays_out p now a k le here (sym is)
