-- Lists of threads that rise: none, one, and those that wait for an end.
use Rattle.mr_exchange.proofs.Common.{◌≡◌, ℕ, zero, suc, ◌+◌, ◌<◌, ◌≤◌, subst, List, [], ◌∷◌, length, arith, inl, inr, Bool, true, false, cond, Some, Contains, IsStrictlyIncreasing, Status, joiners, on_join, Contains-nil}
use Rattle.std.specs.List.{slice_index}
use Rattle.mr_exchange.proofs.ElementTests.{front_cases, here}

pub rising_none : IsStrictlyIncreasing []
rising_none k h = absurd (omega arith)

pub rising_one : (x : ℕ) → IsStrictlyIncreasing (x ∷ [])
rising_one x k h = absurd (omega arith)

-- one below all others in front of them
rising_more : (x : ℕ) (xs : List ℕ) → ((y : ℕ) → Contains xs y → x < y) → IsStrictlyIncreasing xs → IsStrictlyIncreasing (x ∷ xs)
rising_more x [] below h k lt = absurd (omega arith)
rising_more x (y ∷ ys) below h zero lt = below y (here y ys)
rising_more x (y ∷ ys) below h (suc k) lt =
    let same : suc (k + 1) ≡ suc k + 1 = omega arith in
    subst (λ j. slice_index (x ∷ y ∷ ys) (suc k) < slice_index (x ∷ y ∷ ys) j) same (h k (omega arith))

-- where those that wait for an end stand
pub joiner_between : (t i : ℕ) (xs : List Status) (k : ℕ) → Contains (joiners t i xs) k → (i ≤ k) × (k < i + length xs)
joiner_between t i [] k h = absurd (Contains-nil k h)
joiner_between t i (x ∷ xs) k h = by_test (joiner_between t (suc i) xs k) (on_join t (Some x)) h
  where
    by_test : (Contains (joiners t (suc i) xs) k → (suc i ≤ k) × (k < suc i + length xs)) → (b : Bool) → Contains (cond b (i ∷ joiners t (suc i) xs) (joiners t (suc i) xs)) k → (i ≤ k) × (k < i + length (x ∷ xs))
    by_test more true c = elim (front_cases i (joiners t (suc i) xs) k c) [
      | inl e ↦ (omega (arith, e), omega (arith, e))
      | inr m ↦ let b = more m in let low = b.0 in let high = b.1 in (omega arith, omega arith)
    ]
    by_test more false c = let b = more c in let low = b.0 in let high = b.1 in (omega arith, omega arith)

-- those that wait for an end rise
pub rising_joiners : (t i : ℕ) (xs : List Status) → IsStrictlyIncreasing (joiners t i xs)
rising_joiners t i [] = rising_none
rising_joiners t i (x ∷ xs) = by_test (rising_joiners t (suc i) xs) (on_join t (Some x))
  where
    by_test : IsStrictlyIncreasing (joiners t (suc i) xs) → (b : Bool) → IsStrictlyIncreasing (cond b (i ∷ joiners t (suc i) xs) (joiners t (suc i) xs))
    by_test more true = rising_more i (joiners t (suc i) xs) (λ y c. let b = joiner_between t (suc i) xs y c in let low = b.0 in omega arith) more
    by_test more false = more
