-- The marks are of the steps that are needed, and these are those of the short witness.
use Rattle.mr_witness.proofs.Common.{◌≡◌, ℕ, ◌+◌, ◌<◌, ◌≤◌, ◌↔◌, refl, sym, ◌∙◌, ap, subst, arith, List, [], ◌∷◌, ◌++◌, Bool, true, false, IsTrue, length, length-append, get_or, All, inl, inr, ℕ_discrete, and_parts, both_ways, cases_Bool, eq-eqb, eqb-true, or_left, or_right, get_or_default, Footprint, HappensBefore, happens_before, happens_before_is, short_keeps, short_selects, AreEnds, AreMarks, AreRivalsBelow}
use Rattle.std.proofs.Common.{slice_index}
use Rattle.std.proofs.lemmas.Bool.{or_cases}
use Rattle.std.proofs.lemmas.List.{get_or_append_left, get_or_push}
use Rattle.mr_event.specs.Order.{AreRivals, IsGreatestPartner}
use Rattle.mr_event.specs.Order.Edge.{woken}
use Rattle.mr_event.specs.Order.HappensBefore.{edge}
use Rattle.mr_event.proofs.Tests.{any_range, race_pair_is}
use Rattle.mr_clocks.specs.Whole.{IsNeeded, IsUpTo}
use Rattle.mr_witness.specs.Marks.{IsEnd, IsNeededFor}

-- ---- the second step and its rivals

pub no_rivals : (run : List Footprint) (j : ℕ) (steps : List ℕ) → steps ≡ [] → AreRivalsBelow run j 0 steps
no_rivals run j steps none = record {
  each = λ x lt. absurd (let long = ap length none in omega (arith, lt, long));
  all = λ s lt r. absurd (omega (arith, lt));
}

pub same_rivals : (run : List Footprint) (j k : ℕ) (steps : List ℕ) → AreRivalsBelow run j k steps → (AreRivals run k j → ⊥) → AreRivalsBelow run j (k + 1) steps
same_rivals run j k steps h none = record {
  each = λ x lt. let o = h.each x lt in let low = o.0 in (omega (arith, low), o.1);
  all = λ s lt r. elim (ℕ_discrete s k) [
    | yes e ↦ absurd (none (subst (λ (n : ℕ). AreRivals run n j) e r))
    | no ne ↦ h.all s (omega (arith, lt, ne)) r
  ];
}

module _ (run : List Footprint) (j : ℕ) (old new : List ℕ) (k : ℕ) (is : new ≡ old ++ k ∷ []) where
  long : length new ≡ length old + 1
  long = ap length is ∙ length-append old (k ∷ [])

  last : slice_index new (length old) ≡ k
  last = ap (λ l. get_or l (length old) 0) is ∙ get_or_push old k 0 (length old) refl

  first : (x : ℕ) → x < length old → slice_index new x ≡ slice_index old x
  first x lt = ap (λ l. get_or l x 0) is ∙ get_or_append_left old (k ∷ []) 0 x lt

  pub more_rivals : AreRivalsBelow run j k old → AreRivals run k j → AreRivalsBelow run j (k + 1) new
  more_rivals h r = record {
    each = λ x lt. elim (ℕ_discrete x (length old)) [
      | yes at ↦
          let e : slice_index new x ≡ k = ap (slice_index new) at ∙ last in
          (omega (arith, e), subst (λ (n : ℕ). AreRivals run n j) (sym e) r)
      | no other ↦
          let low : x < length old = omega (arith, lt, long, other) in
          let e = first x low in
          let o = h.each x low in
          let less = o.0 in
          (omega (arith, e, less), subst (λ (n : ℕ). AreRivals run n j) (sym e) o.1)
    ];
    all = λ s lt rival. elim (ℕ_discrete s k) [
      | yes e ↦ (length old, omega (arith, long), last ∙ sym e)
      | no ne ↦
          let o = h.all s (omega (arith, lt, ne)) rival in
          let low = o.1 in
          (o.0, omega (arith, low, long), first o.0 low ∙ o.2)
    ];
  }

  pub ends_all : AreRivalsBelow run j j old → k ≡ j → AreEnds run j new
  ends_all h is_j = record {
    each = λ x lt. elim (ℕ_discrete x (length old)) [
      | yes at ↦ inl (ap (slice_index new) at ∙ last ∙ is_j)
      | no other ↦
          let low : x < length old = omega (arith, lt, long, other) in
          subst (IsEnd run j) (sym (first x low)) (inr (h.each x low))
    ];
    all = λ s end. elim end [
      | inl e ↦ (length old, omega (arith, long), last ∙ is_j ∙ sym e)
      | inr r ↦
          let o = h.all s r.0 r.1 in
          let low = o.1 in
          (o.0, omega (arith, low, long), first o.0 low ∙ o.2)
    ];
  }

pub ends_within : (run : List Footprint) (j : ℕ) (ends : List ℕ) → AreEnds run j ends → j < length run → All (λ s. s < length run) ends
ends_within run j ends h lt = λ x d low.
    let e = get_or_default ends x d 0 low in
    elim (h.each x low) [
      | inl s ↦ omega (arith, e, s, lt)
      | inr r ↦ let less = r.0 in omega (arith, e, less, lt)
    ]

-- ---- marks

pub marks_told : (run : List Footprint) (j : ℕ) (ends : List ℕ) (marks : List Bool) → AreEnds run j ends → length marks ≡ length run → ((k : ℕ) → k < length run → IsTrue (get_or marks k false) ↔ IsNeeded run ends k) → AreMarks run j marks
marks_told run j ends marks h wide told = record {
  wide = wide;
  each = λ k lt. (
    λ e. let r = (told k lt).0 e in (slice_index ends r.0, h.each r.0 r.1, r.2),
    λ n. let o = h.all n.0 n.1 in (told k lt).1 (o.0, o.1, subst (λ (s : ℕ). IsUpTo run s k) (sym o.2) n.2),
  );
}

-- ---- the steps of the short witness

module _ (run : List Footprint) (i j : ℕ) (pair : IsGreatestPartner run i j) (within : j < length run) where
  first_end : IsEnd run j i
  first_end = inr (pair.pair.before, (pair.pair.races.apart, pair.pair.races.race))

  end_kept : (s : ℕ) → IsEnd run j s → short_keeps run i j s ≡ true
  end_kept s (inl e) = or_left _ _ (or_left _ _ (or_left _ _ (or_left _ _ (or_right _ _ (eq-eqb _ _ e)))))
  end_kept s (inr r) =
      elim (cases_Bool (happens_before run s j)) [
        | inl e ↦ or_left _ _ (or_left _ _ (or_right _ _ e))
        | inr e ↦
            let none : HappensBefore run s j → ⊥ = λ h. both_ways _ e ((happens_before_is run s j).1 h) in
            or_left _ _ (or_right _ _ ((race_pair_is run s j).1 (record { before = r.0; races = record { apart = r.1.0; race = r.1.1; unsynced = λ y. none (edge (woken y)) }; unordered = none })))
      ]

  end_within : (s : ℕ) → IsEnd run j s → s ≤ j
  end_within s (inl e) = omega (arith, e)
  end_within s (inr r) = let lt = r.0 in omega (arith, lt)

  needed_kept : (k : ℕ) → IsNeededFor run j k → short_keeps run i j k ≡ true
  needed_kept k n =
      elim n.2 [
        | inl e ↦ subst (λ (x : ℕ). short_keeps run i j x ≡ true) (sym e) (end_kept n.0 n.1)
        | inr h ↦ (short_selects run i j pair).closed k n.0 (end_within n.0 n.1) (end_kept n.0 n.1) h
      ]

  kept_needed : (k : ℕ) → short_keeps run i j k ≡ true → IsNeededFor run j k
  kept_needed k h =
      elim (or_cases _ _ h) [
        | inl h1 ↦ elim (or_cases _ _ h1) [
          | inl h2 ↦ elim (or_cases _ _ h2) [
            | inl h3 ↦ elim (or_cases _ _ h3) [
              | inl h4 ↦ elim (or_cases _ _ h4) [
                | inl e ↦ (i, first_end, inl (eqb-true _ _ e))
                | inr e ↦ (j, inl refl, inl (eqb-true _ _ e))
              ]
              | inr e ↦ (i, first_end, inr ((happens_before_is run k i).0 e))
            ]
            | inr e ↦ (j, inl refl, inr ((happens_before_is run k j).0 e))
          ]
          | inr e ↦ let r = (race_pair_is run k j).0 e in (k, inr (r.before, (r.races.apart, r.races.race)), inl refl)
        ]
        | inr e ↦
            let t = any_range _ 0 j e in
            let parts = and_parts _ _ t.3 in
            let r = (race_pair_is run t.0 j).0 (and_parts _ _ parts.0).0 in
            (t.0, inr (r.before, (r.races.apart, r.races.race)), inr ((happens_before_is run k t.0).0 parts.1))
      ]

  same_truth : (a b : Bool) → (a ≡ true → b ≡ true) → (b ≡ true → a ≡ true) → a ≡ b
  same_truth true b f g = sym (f refl)
  same_truth false true f g = absurd (let h = g refl in cc)
  same_truth false false f g = refl

  -- THE MARKED STEPS are those of the short witness
  pub marked_kept : (marks : List Bool) → AreMarks run j marks → (k : ℕ) → k < j → get_or marks k false ≡ short_keeps run i j k
  marked_kept marks h k lt =
      let inside = within in
      let here = h.each k (omega (arith, lt, inside)) in
      same_truth _ _ (λ e. needed_kept k (here.0 e)) (λ e. here.1 (kept_needed k e))
