-- Whether a number of a range passes a test, and the first that does.
use Rattle.mr_show.proofs.Common.{◌≡◌, ℕ, zero, suc, ◌+◌, ◌-◌, ◌<◌, ◌≤◌, ◌⊎◌, inl, inr, Bool, true, false, arith, refl, sym, ap, ap₂, ◌∙◌, Some, find, range_with_len}
use Rattle.std.proofs.lemmas.Bool.{cases_lt}
use Rattle.std.specs.Prelude.{◌||◌}
use Rattle.std.specs.List.{list_any}

at_or_behind : (from n : ℕ) → from ≤ n → (n ≡ from) ⊎ (from + 1 ≤ n)
at_or_behind from n le =
    elim (cases_lt from n) [ inl less ↦ inr (omega (arith, less)) | inr more ↦ inl (omega (arith, le, more)) ]

or_later : (a b : Bool) → b ≡ true → (a || b) ≡ true
or_later true b e = refl
or_later false b e = e

module _ (test : ℕ → Bool) where
  pub one_passes : (from k n : ℕ) → from ≤ n → n < from + k → test n ≡ true
      → list_any test (range_with_len from k) ≡ true
  one_passes from zero n low high has = absurd (omega (arith, low, high))
  one_passes from (suc k) n low high has =
      elim (at_or_behind from n low) [
        | inl here ↦ ap (λ b. b || list_any test (range_with_len (from + 1) k)) (ap test (sym here) ∙ has)
        | inr behind ↦ or_later (test from) (list_any test (range_with_len (from + 1) k))
            (one_passes (from + 1) k n behind (omega (arith, high)) has)
      ]

  -- the first of the numbers from one on that passes is this one, where it does
  pub find_here : (at n : ℕ) → at < n → test at ≡ true → find test (range_with_len at (n - at)) ≡ Some at
  find_here at n less has =
      let one : n - at ≡ suc (n - (at + 1)) = omega (arith, less) in
      ap (λ (m : ℕ). find test (range_with_len at m)) one ∙ rw has refl

  -- none of the numbers from one up to another passes
  abbrev pub NonePasses : ℕ → ℕ → Type 0
  NonePasses from to = (n : ℕ) → from ≤ n → n < to → test n ≡ false

  pub none_passes : (from k : ℕ) → NonePasses from (from + k) → list_any test (range_with_len from k) ≡ false
  none_passes from zero none = refl
  none_passes from (suc k) none =
      ap₂ (λ (a b : Bool). a || b) (none from (omega arith) (omega arith))
      (none_passes (from + 1) k (λ n low high. none n (omega (arith, low)) (omega (arith, high))))

  pub one_more : (from number : ℕ) → test number ≡ false → NonePasses from number → NonePasses from (number + 1)
  one_more from number fails none n low high =
      elim (cases_lt n number) [
        | inl less ↦ none n low less
        | inr more ↦ let here : n ≡ number = omega (arith, high, more) in ap test here ∙ fails
      ]
