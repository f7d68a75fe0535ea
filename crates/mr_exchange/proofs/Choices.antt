-- The two choices of steps that serve as a witness.
use Rattle.mr_exchange.proofs.Common.{◌≡◌, ℕ, ◌<◌, List, true, refl, subst, inl, inr, arith, ℕ_discrete, not, both_ways, eq-eqb, ne_eqb, eqb-true, cases_Bool, not-true, and_parts, and_from, or_left, or_right, Footprint, HappensBefore, RacePair, chain, HappensBefore-before, Selects, short_keeps}
use Rattle.std.proofs.lemmas.Bool.{or_cases}
use Rattle.mr_event.specs.Order.{IsGreatestPartner}
use Rattle.mr_event.specs.Predicted.{happens_before}
use Rattle.mr_event.proofs.Tests.{happens_before_is, race_pair_is, any_range, any_range_at, not_false}

-- what does not come after i
after_not : (run : List Footprint) (i k : ℕ) → (HappensBefore run i k → ⊥) → not (happens_before run i k) ≡ true
after_not run i k n =
    not_false _ (elim (cases_Bool (happens_before run i k)) [
      | inl e ↦ absurd (n ((happens_before_is run i k).0 e))
      | inr e ↦ e
    ])

not_after : (run : List Footprint) (i k : ℕ) → not (happens_before run i k) ≡ true → HappensBefore run i k → ⊥
not_after run i k e h = both_ways _ (not-true _ e) ((happens_before_is run i k).1 h)

pub kept_selects : (run : List Footprint) (i j : ℕ) → IsGreatestPartner run i j → Selects run i j (λ k. not (happens_before run i k))
kept_selects run i j pair =
    record {
      first = after_not run i i (λ h. absurd (let lt = HappensBefore-before h in omega arith));
      second = after_not run i j pair.pair.unordered;
      closed = λ a b le yes h. after_not run i a (λ ia. not_after run i b yes (chain ia h));
      movable = λ k lt yes. not_after run i k yes;
      rivals = λ a r. after_not run i a (λ ia. pair.greatest a (HappensBefore-before ia) r);
    }

-- why a step is in the shorter witness
data Reason (run : List Footprint) (i j k : ℕ) : Type 0 where
  is_first : k ≡ i → Reason run i j k
  is_second : k ≡ j → Reason run i j k
  before_first : HappensBefore run k i → Reason run i j k
  before_second : HappensBefore run k j → Reason run i j k
  is_rival : RacePair run k j → Reason run i j k
  before_rival : (m : ℕ) → RacePair run m j → (m ≡ i → ⊥) → HappensBefore run k m → Reason run i j k

reason_of : (run : List Footprint) (i j k : ℕ) → short_keeps run i j k ≡ true → Reason run i j k
reason_of run i j k h =
    elim (or_cases _ _ h) [
      | inl h1 ↦ elim (or_cases _ _ h1) [
        | inl h2 ↦ elim (or_cases _ _ h2) [
          | inl h3 ↦ elim (or_cases _ _ h3) [
            | inl h4 ↦ elim (or_cases _ _ h4) [
              | inl e ↦ is_first (eqb-true _ _ e)
              | inr e ↦ is_second (eqb-true _ _ e)
            ]
            | inr e ↦ before_first ((happens_before_is run k i).0 e)
          ]
          | inr e ↦ before_second ((happens_before_is run k j).0 e)
        ]
        | inr e ↦ is_rival ((race_pair_is run k j).0 e)
      ]
      | inr e ↦
          let t = any_range _ 0 j e in
          let parts = and_parts _ _ t.3 in
          let two = and_parts _ _ parts.0 in
          before_rival t.0 ((race_pair_is run t.0 j).0 two.0) (λ same. both_ways _ (not-true _ two.1) (eq-eqb _ _ same)) ((happens_before_is run k t.0).0 parts.1)
    ]

for_reason : (run : List Footprint) (i j k : ℕ) → Reason run i j k → short_keeps run i j k ≡ true
for_reason run i j k (is_first e) = or_left _ _ (or_left _ _ (or_left _ _ (or_left _ _ (or_left _ _ (eq-eqb _ _ e)))))
for_reason run i j k (is_second e) = or_left _ _ (or_left _ _ (or_left _ _ (or_left _ _ (or_right _ _ (eq-eqb _ _ e)))))
for_reason run i j k (before_first h) = or_left _ _ (or_left _ _ (or_left _ _ (or_right _ _ ((happens_before_is run k i).1 h))))
for_reason run i j k (before_second h) = or_left _ _ (or_left _ _ (or_right _ _ ((happens_before_is run k j).1 h)))
for_reason run i j k (is_rival r) = or_left _ _ (or_right _ _ ((race_pair_is run k j).1 r))
for_reason run i j k (before_rival m r ne h) =
    or_right _ _
    (let lt : m < j = r.before in
    any_range_at _ 0 j m (omega arith) (omega arith) (and_from _ _ (and_from _ _ ((race_pair_is run m j).1 r) (not_false _ (ne_eqb m i ne))) ((happens_before_is run k m).1 h)))

reason_closed : (run : List Footprint) (i j a b : ℕ) → Reason run i j b → HappensBefore run a b → Reason run i j a
reason_closed run i j a b (is_first e) h = before_first (subst (λ (k : ℕ). HappensBefore run a k) e h)
reason_closed run i j a b (is_second e) h = before_second (subst (λ (k : ℕ). HappensBefore run a k) e h)
reason_closed run i j a b (before_first g) h = before_first (chain h g)
reason_closed run i j a b (before_second g) h = before_second (chain h g)
reason_closed run i j a b (is_rival r) h =
    elim (ℕ_discrete b i) [
      | yes e ↦ before_first (subst (λ (k : ℕ). HappensBefore run a k) e h)
      | no ne ↦ before_rival b r ne h
    ]
reason_closed run i j a b (before_rival m r ne g) h = before_rival m r ne (chain h g)

reason_movable : (run : List Footprint) (i j k : ℕ) → IsGreatestPartner run i j → k < j → Reason run i j k → HappensBefore run i k → ⊥
reason_movable run i j k pair lt (is_first e) h = let low = HappensBefore-before h in omega arith
reason_movable run i j k pair lt (is_second e) h = omega arith
reason_movable run i j k pair lt (before_first g) h = let low = HappensBefore-before h in let high = HappensBefore-before g in omega arith
reason_movable run i j k pair lt (before_second g) h = pair.pair.unordered (chain h g)
reason_movable run i j k pair lt (is_rival r) h = pair.greatest k (HappensBefore-before h) r
reason_movable run i j k pair lt (before_rival m r ne g) h = pair.greatest m (HappensBefore-before (chain h g)) r

pub short_selects : (run : List Footprint) (i j : ℕ) → IsGreatestPartner run i j → Selects run i j (short_keeps run i j)
short_selects run i j pair =
    record {
      first = for_reason run i j i (is_first refl);
      second = for_reason run i j j (is_second refl);
      closed = λ a b le yes h. for_reason run i j a (reason_closed run i j a b (reason_of run i j b yes) h);
      movable = λ k lt yes. reason_movable run i j k pair lt (reason_of run i j k yes);
      rivals = λ a r. for_reason run i j a (is_rival r);
    }
