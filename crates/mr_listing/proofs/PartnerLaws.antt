-- Partners by rising steps, and those of one step among them.
use Rattle.mr_listing.proofs.Common.{◌≡◌, ℕ, zero, suc, ◌<◌, ◌≤◌, Bool, true, false, arith, List, [], ◌∷◌, length, get_or, take, drop, refl, sym, ap, ap₂, ◌∙◌, nat_tests, filter_agree, ◌&&◌, ◌==◌, not, nat_le, nat_lt, cond, filter, IsNonDecreasingBy, ties, is_lt, nat_cmp, Pair, Partner, ArePartners}
use Rattle.std.specs.List.Sorted.{IsStableByKey}
use Rattle.std.specs.declared.cmp.Ordering.TheVariants.{Equal, Greater, Less}
use Rattle.mr_listing.specs.Partners.{is_of, partners}

-- ---- what a search splits

module _ {X : Type 0} (p : X → Bool) where
  -- what passes up to a place, and nothing behind it, is what a filter keeps
  pub passing : (xs : List X) (i : ℕ) → ((k : ℕ) (d : X) → k < i → k < length xs → p (get_or xs k d) ≡ true)
      → ((k : ℕ) (d : X) → i ≤ k → k < length xs → p (get_or xs k d) ≡ false) → take i xs ≡ filter p xs
  passing [] zero t f = refl
  passing [] (suc i) t f = refl
  passing (x ∷ xs) zero t f =
      passing xs zero (λ k d l m. absurd (omega arith)) (λ k d l m. f (suc k) d (omega arith) (omega arith))
      ∙ sym (ap (λ b. cond b (x ∷ filter p xs) (filter p xs)) (f 0 x (omega arith) (omega arith)))
  passing (x ∷ xs) (suc i) t f =
      ap (λ (ys : List X). x ∷ ys)
      (passing xs i (λ k d l m. t (suc k) d (omega arith) (omega arith))
      (λ k d l m. f (suc k) d (omega arith) (omega arith)))
      ∙ sym (ap (λ b. cond b (x ∷ filter p xs) (filter p xs)) (t 0 x (omega arith) (omega arith)))

  -- and what stands behind it is what the other filter keeps
  pub failing : (xs : List X) (i : ℕ) → ((k : ℕ) (d : X) → k < i → k < length xs → p (get_or xs k d) ≡ true)
      → ((k : ℕ) (d : X) → i ≤ k → k < length xs → p (get_or xs k d) ≡ false) → drop i xs ≡ filter (λ x. not (p x)) xs
  failing [] zero t f = refl
  failing [] (suc i) t f = refl
  failing (x ∷ xs) zero t f =
      ap (λ (ys : List X). x ∷ ys)
      (failing xs zero (λ k d l m. absurd (omega arith)) (λ k d l m. f (suc k) d (omega arith) (omega arith)))
      ∙ sym (ap (λ b. cond (not b) (x ∷ filter (λ y. not (p y)) xs) (filter (λ y. not (p y)) xs))
      (f 0 x (omega arith) (omega arith)))
  failing (x ∷ xs) (suc i) t f =
      failing xs i (λ k d l m. t (suc k) d (omega arith) (omega arith))
      (λ k d l m. f (suc k) d (omega arith) (omega arith))
      ∙ sym (ap (λ b. cond (not b) (x ∷ filter (λ y. not (p y)) xs) (filter (λ y. not (p y)) xs))
      (t 0 x (omega arith) (omega arith)))

  -- what two filters keep
  pub filter_twice : (q : X → Bool) (xs : List X) → filter q (filter p xs) ≡ filter (λ x. p x && q x) xs
  filter_twice q [] = refl
  filter_twice q (x ∷ xs) = by_test (p x) (filter_twice q xs)
    where
      by_test : (b : Bool) → filter q (filter p xs) ≡ filter (λ y. p y && q y) xs
          → filter q (cond b (x ∷ filter p xs) (filter p xs))
          ≡ cond (b && q x) (x ∷ filter (λ y. p y && q y) xs) (filter (λ y. p y && q y) xs)
      by_test true later = ap (λ (ys : List X). cond (q x) (x ∷ ys) ys) later
      by_test false later = later

-- ---- one step

is_step : (a n : ℕ) → (not (nat_lt a n) && nat_le a n) ≡ (a == n)
is_step a n = grind (arith, nat_tests)

-- those from a step on and up to it are its own
pub of_one_step : (xs : List Partner) (n : ℕ)
    → filter (λ (p : Partner). nat_le p.step n) (filter (λ (p : Partner). not (nat_lt p.step n)) xs)
    ≡ filter (is_of n) xs
of_one_step xs n =
    filter_twice (λ (p : Partner). not (nat_lt p.step n)) (λ (p : Partner). nat_le p.step n) xs
    ∙ filter_agree (λ (p : Partner). not (nat_lt p.step n) && nat_le p.step n) (is_of n) (λ p. is_step p.step n) xs

-- ---- a stable sort

pub compared : (a b : ℕ) → is_lt (nat_cmp a b) ≡ nat_lt a b
compared a b = go (nat_lt a b) (a == b)
  where
    go : (t e : Bool) → is_lt (cond t Less (cond e Equal Greater)) ≡ t
    go true e = refl
    go false true = refl
    go false false = refl

tied : (a b : ℕ) → (not (nat_lt a b) && not (nat_lt b a)) ≡ (b == a)
tied a b = grind (arith, nat_tests)

-- a step ties with itself alone
same_step : (n : ℕ) (p : Partner)
    → (not (is_lt (nat_cmp n p.step)) && not (is_lt (nat_cmp p.step n))) ≡ (p.step == n)
same_step n p = ap₂ (λ (a b : Bool). not a && not b) (compared n p.step) (compared p.step n) ∙ tied n p.step

-- partners in the order of a stable sort by their steps
pub sorted_partners : (races : List Pair) (all sorted : List Partner) → all ≡ partners races
    → IsNonDecreasingBy (λ (p : Partner). p.step) sorted → IsStableByKey (λ (p : Partner). p.step) nat_cmp all sorted
    → ArePartners races sorted
sorted_partners races all sorted same rising stable = record {
  rising = rising;
  each = λ number.
      let like : Partner = record { step = number; other = 0 } in
      sym (filter_agree (ties (λ (x y : Partner). is_lt (nat_cmp x.step y.step)) like) (is_of number) (same_step number) sorted)
      ∙ stable like
      ∙ filter_agree (ties (λ (x y : Partner). is_lt (nat_cmp x.step y.step)) like) (is_of number) (same_step number) all
      ∙ ap (filter (is_of number)) same;
}
