-- The first number that passes a test.
use Rattle.mr_hunt.proofs.Common.{◌≡◌, ℕ, zero, suc, ◌+◌, ◌-◌, ◌<◌, ◌≤◌, ◌⊎◌, inl, inr, Bool, true, false, cond, arith, refl, sym, ap, ◌∙◌, Option, None, Some, range_with_len, numbers}
use Rattle.std.proofs.lemmas.Bool.{cases_lt}
use Rattle.std.specs.List.{find}
use Rattle.mr_hunt.specs.Aims.{IsFirst}

at_or_behind : (from n : ℕ) → from ≤ n → (n ≡ from) ⊎ (from + 1 ≤ n)
at_or_behind from n le = elim (cases_lt from n) [ inl less ↦ inr (omega (arith, less)) | inr more ↦ inl (omega (arith, le, more)) ]

module _ (test : ℕ → Bool) where
  found_least : (from k n : ℕ) → from ≤ n → n < from + k → test n ≡ true
      → ((m : ℕ) → from ≤ m → m < n → test m ≡ false) → find test (range_with_len from k) ≡ Some n
  found_least from zero n low high has least = absurd (omega (arith, low, high))
  found_least from (suc k) n low high has least =
      elim (at_or_behind from n low) [
        | inl here ↦
            ap (λ b. cond b (Some from) (find test (range_with_len (from + 1) k))) (ap test (sym here) ∙ has)
            ∙ ap Some (sym here)
        | inr behind ↦
            ap (λ b. cond b (Some from) (find test (range_with_len (from + 1) k)))
            (least from (omega arith) (omega (arith, behind)))
            ∙ found_least (from + 1) k n behind (omega (arith, high)) has
            (λ m above below. least m (omega (arith, above)) below)
      ]

  found_none : (from k : ℕ) → ((m : ℕ) → from ≤ m → m < from + k → test m ≡ false)
      → find test (range_with_len from k) ≡ None
  found_none from zero none = refl
  found_none from (suc k) none =
      ap (λ b. cond b (Some from) (find test (range_with_len (from + 1) k))) (none from (omega arith) (omega arith))
      ∙ found_none (from + 1) k (λ m above below. none m (omega (arith, above)) (omega (arith, below)))

  -- THE LEAST is what is found first
  pub first_found : (from to : ℕ) (found : Option ℕ) → IsFirst test from to found → found ≡ find test (numbers from to)
  first_found from to None none =
      sym (found_none from (to + 1 - from) (λ m above below. none m above (omega (arith, above, below))))
  first_found from to (Some n) (low, high, has, least) =
      sym (found_least from (to + 1 - from) n low (omega (arith, low, high)) has least)

  -- none of the numbers before turn k passes
  abbrev pub NoneBefore : ℕ → ℕ → Type 0
  NoneBefore from k = (n : ℕ) → from ≤ n → n < from + k → test n ≡ false

  -- and neither does that of turn k
  pub none_next : (from k number : ℕ) → number ≡ from + k → test number ≡ false → NoneBefore from k
      → NoneBefore from (k + 1)
  none_next from k number there fails none n low high =
      elim (cases_lt n (from + k)) [
        | inl less ↦ none n low less
        | inr more ↦ let here : n ≡ number = omega (arith, there, high, more) in ap test here ∙ fails
      ]
