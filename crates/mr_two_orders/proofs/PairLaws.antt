-- The step with which a list of races has a step: how the code finds it, and what it is of the lists of the two orders.
use Rattle.mr_two_orders.proofs.Common.{◌≡◌, ℕ, suc, ◌+◌, ◌<◌, ◌≤◌, Bool, true, false, cond, arith, List, [], ◌∷◌, length, get_or, refl, sym, ap, ◌∙◌, Option, None, Some, eq-eqb, ne_eqb, ◌==◌, if◌then◌else◌, nat_lt, slice_get, find, Footprint, Pair, rust_races, IsRising, first_of, partner}
use Rattle.std.proofs.Common.{zero}
use native.Mathlib.Decide.{ℕ_discrete}
use Rattle.std.proofs.lemmas.Bool.{ltb-false, ltb-true}
use Rattle.std.specs.List.Sorted.{IsNonDecreasingBy}
use Rattle.std.specs.Option.{option_map}
use Rattle.mr_event.specs.Predicted.{predicted}
use Rattle.mr_event.proofs.Tests.{predicted_is}
use Rattle.mr_rust_order.proofs.TestLaws.{rust_races_are}
use Rattle.mr_two_orders.specs.Pairs.{first_step, is_of}

-- ---- a search

pub rising_steps : (pairs : List Pair) → IsRising pairs → IsNonDecreasingBy (λ (p : Pair). p.second) pairs
rising_steps pairs r = λ i j d low lt.
    elim (ℕ_discrete i j) [
      | yes same ↦ let e : (get_or pairs i d).second ≡ (get_or pairs j d).second = ap (λ k. (get_or pairs k d).second) same in omega arith
      | no other ↦ let less : (get_or pairs i d).second < (get_or pairs j d).second = r i j d (omega (arith, low, other)) lt in omega arith
    ]

none_later : (pairs : List Pair) (j : ℕ) → ((k : ℕ) (d : Pair) → k < length pairs → j < (get_or pairs k d).second)
    → find (is_of j) pairs ≡ None
none_later [] j h = refl
none_later (p ∷ ps) j h =
    let later : j < p.second = h 0 p (omega arith) in
    ap (λ b. cond b (Some p) (find (is_of j) ps)) (ne_eqb p.second j (λ e. omega (arith, later, e)))
    ∙ none_later ps j (λ k d lt. h (suc k) d (omega arith))

-- where the second steps before a place lie before a step, and those from it on don't, the step's race is at the place
pub partner_at : (pairs : List Pair) (j n : ℕ)
    → ((k : ℕ) (d : Pair) → k < n → k < length pairs → nat_lt (get_or pairs k d).second j ≡ true)
    → ((k : ℕ) (d : Pair) → n ≤ k → k < length pairs → nat_lt (get_or pairs k d).second j ≡ false) → IsRising pairs
    → partner pairs j ≡ first_of j (slice_get pairs n)
partner_at [] j n low high r = refl
partner_at (p ∷ ps) j zero low high r = by (p.second == j)
  where
    above : j ≤ p.second
    above = ltb-false p.second j (high 0 p (omega arith) (omega arith))

    by : (b : Bool) → option_map first_step (cond b (Some p) (find (is_of j) ps)) ≡ (if b then Some p.first else None)
    by true = refl
    by false =
        ap (option_map first_step)
        (none_later ps j
        (λ k d lt. let rises : p.second < (get_or ps k d).second = r 0 (suc k) d (omega arith) (omega arith) in omega (arith, rises, above)))
partner_at (p ∷ ps) j (suc n) low high r =
    let below : p.second < j = ltb-true p.second j (low 0 p (omega arith) (omega arith)) in
    ap (λ b. option_map first_step (cond b (Some p) (find (is_of j) ps))) (ne_eqb p.second j (λ e. omega (arith, below, e)))
    ∙ partner_at ps j n (λ k d l m. low (suc k) d (omega arith) (omega arith))
    (λ k d l m. high (suc k) d (omega arith) (omega arith)) (λ i k d l m. r (suc i) (suc k) d (omega arith) (omega arith))

-- ---- a race of the list

-- a list has the second step of each of its races with the first
pub partner_there : (pairs : List Pair) (k : ℕ) (q : Pair) → k < length pairs → get_or pairs k q ≡ q → IsRising pairs
    → partner pairs q.second ≡ Some q.first
partner_there [] k q lt e r = absurd (omega (arith, lt))
partner_there (p ∷ ps) zero q lt e r =
    ap (λ b. option_map first_step (cond b (Some p) (find (is_of q.second) ps))) (eq-eqb p.second q.second (ap (λ (x : Pair). x.second) e))
    ∙ ap (λ (x : Pair). Some x.first) e
partner_there (p ∷ ps) (suc k) q lt e r =
    let rises : p.second < (get_or ps k q).second = r 0 (suc k) q (omega arith) (omega arith) in
    let at : (get_or ps k q).second ≡ q.second = ap (λ (x : Pair). x.second) e in
    ap (λ b. option_map first_step (cond b (Some p) (find (is_of q.second) ps))) (ne_eqb p.second q.second (λ s. omega (arith, rises, at, s)))
    ∙ partner_there ps k q (omega arith) e (λ i m d l h. r (suc i) (suc m) d (omega arith) (omega arith))

-- ---- the lists of the two orders

pub predicted_rises : (run : List Footprint) → IsRising (predicted run)
predicted_rises run = (predicted_is run).rising

pub rust_rises : (run : List Footprint) → IsRising (rust_races run)
rust_rises run = (rust_races_are run).rising
