-- Whether a test holds of a number below an end.
use Rattle.mr_layout.proofs.Common.{◌≡◌, ℕ, zero, suc, ◌<◌, ◌⊎◌, ⊎_elim, Bool, true, false, refl, sym, subst, ap, ◌∙◌, arith, ◌||◌, or_left, or_right, or_cases, or_from, is_some_below}

at_or_below : (k n : ℕ) → k < suc n → (k < n) ⊎ (k ≡ n)
at_or_below k n h = grind arith

pub some_at : (test : ℕ → Bool) (n k : ℕ) → k < n → test k ≡ true → is_some_below test n ≡ true
some_at test zero k h e = absurd (omega arith)
some_at test (suc n) k h e =
    ⊎_elim
    (λ (l : k < n). or_left (is_some_below test n) (test n) (some_at test n k l e))
    (λ (s : k ≡ n). or_right (is_some_below test n) (test n) (subst (λ (m : ℕ). test m ≡ true) s e))
    (at_or_below k n h)

pub some_of : (test : ℕ → Bool) (n : ℕ) → is_some_below test n ≡ true → (k : ℕ) × (k < n) × (test k ≡ true)
some_of test zero e = cc
some_of test (suc n) e =
    ⊎_elim
    (λ (h : is_some_below test n ≡ true). let w = some_of test n h in let l : w.0 < n = w.1 in (w.0, omega arith, w.2))
    (λ (h : test n ≡ true). (n, omega arith, h))
    (or_cases (is_some_below test n) (test n) e)

pub none_below : (test : ℕ → Bool) (n : ℕ) → ((k : ℕ) → k < n → test k ≡ false) → is_some_below test n ≡ false
none_below test zero h = refl
none_below test (suc n) h = or_from (is_some_below test n) (test n) (none_below test n (λ k l. h k (omega arith))) (h n (omega arith))

-- two tests, each of which holds of some number where the other does
pub same_some : (p q : ℕ → Bool) (n m : ℕ) → ((k : ℕ) → k < n → p k ≡ true → is_some_below q m ≡ true) → ((k : ℕ) → k < m → q k ≡ true → is_some_below p n ≡ true)
    → is_some_below p n ≡ is_some_below q m
same_some p q n m there back = by (is_some_below p n) (is_some_below q m) refl refl
  where
    by : (a b : Bool) → is_some_below p n ≡ a → is_some_below q m ≡ b → is_some_below p n ≡ is_some_below q m
    by true b e f = let w = some_of p n e in e ∙ sym (there w.0 w.1 w.2)
    by false true e f = let w = some_of q m f in back w.0 w.1 w.2 ∙ sym f
    by false false e f = e ∙ sym f

-- two tests that are equal below the end
pub same_tests : (p q : ℕ → Bool) (n : ℕ) → ((k : ℕ) → k < n → p k ≡ q k) → is_some_below p n ≡ is_some_below q n
same_tests p q zero h = refl
same_tests p q (suc n) h = (λ i. same_tests p q n (λ k l. h k (omega arith)) i || h n (omega arith) i)

four : (a b c d : Bool) → ((a || b) || (c || d)) ≡ ((a || c) || (b || d))
four true b c d = refl
four false b true d = or_right b true refl
four false true false d = refl
four false false false d = refl

-- one of two tests
pub some_either : (p q : ℕ → Bool) (n : ℕ) → is_some_below (λ k. p k || q k) n ≡ (is_some_below p n || is_some_below q n)
some_either p q zero = refl
some_either p q (suc n) = ap (λ b. b || (p n || q n)) (some_either p q n) ∙ four (is_some_below p n) (is_some_below q n) (p n) (q n)
