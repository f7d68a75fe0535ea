-- The short schedule has entries of the kept one alone, and no more.
use Rattle.mr_witness.proofs.Common.{◌≡◌, ℕ, suc, zero, ◌≤◌, refl, sym, ◌∙◌, ap, subst, arith, List, [], ◌∷◌, ◌++◌, map, length, Bool, true, not, ◌&&◌, inl, inr, ◌⊎◌, length-append, ◌==◌, filter, and_from, and_parts, cases_Bool, length-map, Footprint, kept, selected, HappensBefore, places, happens_before, happens_before_is, not_false, IsAmong, short_keeps, short_selects, Each, Each-places, Each-weaker, filter-kept, filter-left_out, Entry, Schedule, entry_at, kept_schedule, short_schedule}
use Rattle.std.specs.Prelude.{Contains}
use Rattle.mr_event.specs.Order.{IsGreatestPartner}

-- ---- lists

-- what a stricter test keeps is kept too
stricter_among : (p q : ℕ → Bool) (xs ys : List ℕ) (k : ℕ) → Each (λ x. p x ≡ true → q x ≡ true) xs → IsAmong k (filter p xs ++ ys) → IsAmong k (filter q xs ++ ys)
stricter_among p q [] ys k h a = a
stricter_among p q (x ∷ xs) ys k h a =
    let rest = stricter_among p q xs ys k h.1 in
    elim (cases_Bool (p x)) [
      | inl yes_p ↦
          let there : (k ≡ x) ⊎ IsAmong k (filter p xs ++ ys) = subst (λ l. IsAmong k (l ++ ys)) (filter-kept p x xs yes_p) a in
          subst (λ l. IsAmong k (l ++ ys)) (sym (filter-kept q x xs (h.0 yes_p))) (kept rest there)
      | inr no_p ↦
          let there = rest (subst (λ l. IsAmong k (l ++ ys)) (filter-left_out p x xs no_p) a) in
          elim (cases_Bool (q x)) [
            | inl yes_q ↦ subst (λ l. IsAmong k (l ++ ys)) (sym (filter-kept q x xs yes_q)) (inr there)
            | inr no_q ↦ subst (λ l. IsAmong k (l ++ ys)) (sym (filter-left_out q x xs no_q)) there
          ]
    ]
  where
    kept : (IsAmong k (filter p xs ++ ys) → IsAmong k (filter q xs ++ ys)) → (k ≡ x) ⊎ IsAmong k (filter p xs ++ ys) → IsAmong k (x ∷ (filter q xs ++ ys))
    kept f (inl e) = inl e
    kept f (inr b) = inr (f b)

stricter_length : (p q : ℕ → Bool) (xs : List ℕ) → Each (λ x. p x ≡ true → q x ≡ true) xs → length (filter p xs) ≤ length (filter q xs)
stricter_length p q [] h = omega arith
stricter_length p q (x ∷ xs) h =
    let rest = stricter_length p q xs h.1 in
    elim (cases_Bool (p x)) [
      | inl yes_p ↦
          let a = ap length (filter-kept p x xs yes_p) in
          let b = ap length (filter-kept q x xs (h.0 yes_p)) in
          omega (arith, a, b, rest)
      | inr no_p ↦ elim (cases_Bool (q x)) [
        | inl yes_q ↦
            let a = ap length (filter-left_out p x xs no_p) in
            let b = ap length (filter-kept q x xs yes_q) in
            omega (arith, a, b, rest)
        | inr no_q ↦
            let a = ap length (filter-left_out p x xs no_p) in
            let b = ap length (filter-left_out q x xs no_q) in
            omega (arith, a, b, rest)
      ]
    ]

-- an element of a mapped list comes from one of the list
from_map : (f : ℕ → Entry) (xs : List ℕ) (e : Entry) → Contains (map f xs) e → (k : ℕ) × IsAmong k xs × (f k ≡ e)
from_map f [] e (n, lt, is) = absurd (omega (arith, lt))
from_map f (x ∷ xs) e (zero, lt, is) = (x, inl refl, is)
from_map f (x ∷ xs) e (suc n, lt, is) = let r = from_map f xs e (n, omega (arith, lt), is) in (r.0, inr r.1, r.2)

into_map : (f : ℕ → Entry) (xs : List ℕ) (e : Entry) (k : ℕ) → IsAmong k xs → f k ≡ e → Contains (map f xs) e
into_map f [] e k a is = absurd a
into_map f (x ∷ xs) e k (inl s) is = (0, omega arith, ap f (sym s) ∙ is)
into_map f (x ∷ xs) e k (inr a) is = let r = into_map f xs e k a is in (suc r.0, omega (arith, r.1), r.2)

-- ---- the schedules

module _ (run : List Footprint) (i j : ℕ) (pair : IsGreatestPartner run i j) where
  -- no step of the short witness before the second comes after the first
  stricter : Each (λ k. (short_keeps run i j k && not (k == i)) ≡ true → (not (happens_before run i k) && not (k == i)) ≡ true) (places j)
  stricter =
      Each-weaker _ _
      (λ k c e.
      let parts = and_parts (short_keeps run i j k) (not (k == i)) e in
      and_from _ _ (by_case k ((short_selects run i j pair).movable k (omega (arith, c.1)) parts.0)) parts.1)
      (places j) (Each-places 0 j)
    where
      by_case : (k : ℕ) → (HappensBefore run i k → ⊥) → not (happens_before run i k) ≡ true
      by_case k none = elim (cases_Bool (happens_before run i k)) [
        | inl e ↦ absurd (none ((happens_before_is run i k).0 e))
        | inr e ↦ not_false _ e
      ]

  pub among_kept : (w v : Schedule) → v ≡ short_schedule run w i j → (e : Entry) → Contains v.entries e → Contains (kept_schedule run w i j).entries e
  unfolding kept_schedule
  among_kept w v is e c =
      let r = from_map (entry_at w.entries) (selected (short_keeps run i j) i j) e (subst (λ (x : Schedule). Contains x.entries e) is c) in
      into_map (entry_at w.entries) (kept run i j) e r.0
      (stricter_among (λ k. short_keeps run i j k && not (k == i)) (λ k. not (happens_before run i k) && not (k == i)) (places j) (i ∷ j ∷ []) r.0 stricter r.1) r.2

  pub no_longer : (w v : Schedule) → v ≡ short_schedule run w i j → length v.entries ≤ length (kept_schedule run w i j).entries
  unfolding kept_schedule
  no_longer w v is =
      let a = ap (λ (x : Schedule). length x.entries) is in
      let b = length-map (selected (short_keeps run i j) i j) (entry_at w.entries) in
      let c = length-map (kept run i j) (entry_at w.entries) in
      let d = length-append (filter (λ k. short_keeps run i j k && not (k == i)) (places j)) (i ∷ j ∷ []) in
      let e = length-append (filter (λ k. not (happens_before run i k) && not (k == i)) (places j)) (i ∷ j ∷ []) in
      let less = stricter_length (λ k. short_keeps run i j k && not (k == i)) (λ k. not (happens_before run i k) && not (k == i)) (places j) stricter in
      omega (arith, a, b, c, d, e, less)
