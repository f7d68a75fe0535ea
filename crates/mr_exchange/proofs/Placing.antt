-- An order in which each step is placed behind all that happen before it is a rearrangement.
use Rattle.mr_exchange.proofs.Common.{◌≡◌, ℕ, suc, zero, ◌<◌, ◌≤◌, ◌+◌, List, [], ◌∷◌, length, refl, sym, ◌∙◌, inl, inr, arith, ℕ_discrete, dec_lt, eq-eqb, ne_eqb, Footprint, HappensBefore, places, IsRearrangement, IsAmong, IsPlacing}
use Rattle.std.specs.Prelude.{AllPairs}
use Rattle.mr_exchange.proofs.Lists.{Each, Ahead, Each-at, Each-weaker, Each-places, Ahead-places}
use Rattle.mr_exchange.proofs.Rearranged.{times, SameTimes, times-places, permutation_from_times}

-- what is placed later was not placed before
unplaced : (run : List Footprint) (placed o : List ℕ) → IsPlacing run placed o → Each (λ y. IsAmong y placed → ⊥) o
unplaced run placed [] h = tt
unplaced run placed (x ∷ o) h =
    (h.0.unplaced, Each-weaker _ _ (λ y n a. n (inr a)) o (unplaced run (x ∷ placed) o h.1))

placing_keeps : (run : List Footprint) (placed o : List ℕ) → IsPlacing run placed o → Ahead (λ a b. HappensBefore run b a → ⊥) o
placing_keeps run placed [] h = tt
placing_keeps run placed (x ∷ o) h =
    (Each-weaker _ _ (λ y n b. n (inr (h.0.ready y b))) o (unplaced run (x ∷ placed) o h.1), placing_keeps run (x ∷ placed) o h.1)

pub placing_within : (run : List Footprint) (placed o : List ℕ) → IsPlacing run placed o → Each (λ k. k < length run) o
placing_within run placed [] h = tt
placing_within run placed (x ∷ o) h = (h.0.within, placing_within run (x ∷ placed) o h.1)

times-none : (k : ℕ) (xs : List ℕ) → Each (λ y. y ≡ k → ⊥) xs → times k xs ≡ 0
times-none k [] h = refl
times-none k (x ∷ xs) h = rw (ne_eqb x k h.0) (omega (arith, times-none k xs h.1))

times-among : (k : ℕ) (xs : List ℕ) → IsAmong k xs → 0 < times k xs
times-among k [] h = absurd h
times-among k (x ∷ xs) (inl e) = let t = eq-eqb x k (sym e) in rw t (omega arith)
times-among k (x ∷ xs) (inr h) = omega (arith, times-among k xs h)

-- where no element comes again, each stands at most once
times-once : (k : ℕ) (xs : List ℕ) → Ahead (λ x y. x ≡ y → ⊥) xs → times k xs ≤ 1
times-once k [] h = omega arith
times-once k (x ∷ xs) h =
    elim (ℕ_discrete x k) [
      | yes e ↦
          let none = times-none k xs (Each-weaker _ _ (λ y n same. n (e ∙ sym same)) xs h.0) in
          rw (eq-eqb x k e) (omega (arith, none))
      | no ne ↦ rw (ne_eqb x k ne) (omega (arith, times-once k xs h.1))
    ]

placing_distinct : (run : List Footprint) (placed o : List ℕ) → IsPlacing run placed o → Ahead (λ x y. x ≡ y → ⊥) o
placing_distinct run placed [] h = tt
placing_distinct run placed (x ∷ o) h =
    (Each-weaker _ _ (λ y n e. n (inl (sym e))) o (unplaced run (x ∷ placed) o h.1), placing_distinct run (x ∷ placed) o h.1)

increasing_distinct : (xs : List ℕ) → Ahead (λ x y. x < y) xs → Ahead (λ x y. x ≡ y → ⊥) xs
increasing_distinct [] h = tt
increasing_distinct (x ∷ xs) h = (Each-weaker (λ y. x < y) (λ y. x ≡ y → ⊥) (λ y lt e. omega arith) xs h.0, increasing_distinct xs h.1)

pairs_from_Ahead : (R : ℕ → ℕ → Type 0) (xs : List ℕ) → Ahead R xs → AllPairs R xs
pairs_from_Ahead R [] f i j d lt h = absurd (omega arith)
pairs_from_Ahead R (x ∷ xs) f zero zero d lt h = absurd (omega arith)
pairs_from_Ahead R (x ∷ xs) f zero (suc j) d lt h = Each-at (R x) xs f.0 j d (omega arith)
pairs_from_Ahead R (x ∷ xs) f (suc i) zero d lt h = absurd (omega arith)
pairs_from_Ahead R (x ∷ xs) f (suc i) (suc j) d lt h = pairs_from_Ahead R xs f.1 i j d (omega arith) (omega arith)

pub placing_is_rearrangement : (run : List Footprint) (o : List ℕ) → IsPlacing run [] o → ((k : ℕ) → k < length run → IsAmong k o) → IsRearrangement run o
placing_is_rearrangement run o h all =
    record {
      permutes = permutation_from_times o (places (length run)) same;
      keeps = pairs_from_Ahead _ o (placing_keeps run [] o h);
    }
  where
    same : SameTimes o (places (length run))
    same k =
        elim (dec_lt k (length run)) [
          | yes lt ↦
              omega (
                arith,
                times-among k o (all k lt),
                times-once k o (placing_distinct run [] o h),
                times-places k 0 (length run) (omega arith) (omega arith),
                times-once k (places (length run)) (increasing_distinct (places (length run)) (Ahead-places 0 (length run))),
              )
          | no over ↦
              times-none k o (Each-weaker (λ y. y < length run) (λ y. y ≡ k → ⊥) (λ y lt e. omega arith) o (placing_within run [] o h))
              ∙ sym (times-none k (places (length run)) (Each-weaker (λ y. (0 ≤ y) × (y < 0 + length run)) (λ y. y ≡ k → ⊥) (λ y c e. omega (arith, c)) (places (length run)) (Each-places 0 (length run))))
        ]
