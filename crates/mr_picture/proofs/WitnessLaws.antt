-- The steps of a witness that are drawn, and those that it leaves out.
use Rattle.mr_picture.proofs.Common.{◌≡◌, ℕ, zero, suc, ◌+◌, ◌-◌, ◌<◌, ◌≤◌, inl, inr, Bool, true, false, List, [], ◌∷◌, ◌++◌, append_assoc, refl, sym, ap, subst, ◌∙◌, arith, and_parts, cases_Bool, eq-eqb, eqb-true, ne_eqb, nat_tests, filter-append, ◌==◌, ◌&&◌, ◌||◌, not, nat_le, nat_lt, filter, range_with_len, Footprint, Pair, happens_before, HappensBefore-before, happens_before_is, Span, holds_race, is_in, steps_in, is_left_out, is_other, left_out, witness_steps}
use Rattle.std.proofs.lemmas.List.Sorted.{IsPermutation-append_comm, IsPermutation-append_left, IsPermutation-filter_both, IsPermutation-trans}
use Rattle.std.specs.Prelude.{IsPermutation}
use Rattle.mr_event.specs.Kept.{kept}
use Rattle.mr_event.specs.Order.{RacePair}

-- ---- filters of numbers

pub parts : (a n m : ℕ) → range_with_len a (n + m) ≡ range_with_len a n ++ range_with_len (a + n) m
parts a zero m =
    let none : zero + m ≡ m = omega arith in let here : a + zero ≡ a = omega arith in
    ap (range_with_len a) none ∙ ap (λ b. range_with_len b m) (sym here)
parts a (suc n) m =
    let more : suc n + m ≡ suc (n + m) = omega arith in let there : (a + 1) + n ≡ a + suc n = omega arith in
    ap (range_with_len a) more
    ∙ ap (λ xs. a ∷ xs) (parts (a + 1) n m ∙ ap (λ b. range_with_len (a + 1) n ++ range_with_len b m) there)

filter_by : (p : ℕ → Bool) (b : Bool) (k : ℕ) (ks : List ℕ) → p k ≡ b → filter p (k ∷ ks) ≡ filter p (k ∷ []) ++ filter p ks
filter_by p b k ks e = filter-append p (k ∷ []) ks

pub one : {X : Type 0} (p : X → Bool) (k : X) → p k ≡ true → filter p (k ∷ []) ≡ k ∷ []
one p k e = rw e

pub no_one : {X : Type 0} (p : X → Bool) (k : X) → p k ≡ false → filter p (k ∷ []) ≡ []
no_one p k e = rw e

same_one : (p q : ℕ → Bool) (k : ℕ) → p k ≡ q k → filter p (k ∷ []) ≡ filter q (k ∷ [])
same_one p q k e = rw e

-- tests that agree on some numbers keep the same of them
pub same_kept : (p q : ℕ → Bool) (a n : ℕ) → ((k : ℕ) → a ≤ k → k < a + n → p k ≡ q k)
    → filter p (range_with_len a n) ≡ filter q (range_with_len a n)
same_kept p q a zero h = refl
same_kept p q a (suc n) h =
    let rest = range_with_len (a + 1) n in
    filter-append p (a ∷ []) rest
    ∙ ap (λ xs. xs ++ filter p rest) (same_one p q a (h a (omega arith) (omega arith)))
    ∙ ap (λ xs. filter q (a ∷ []) ++ xs)
    (same_kept p q (a + 1) n (λ k low high. h k (omega (arith, low)) (omega (arith, high))))
    ∙ sym (filter-append q (a ∷ []) rest)

pub none_kept : (p : ℕ → Bool) (a n : ℕ) → ((k : ℕ) → a ≤ k → k < a + n → p k ≡ false) → filter p (range_with_len a n) ≡ []
none_kept p a zero h = refl
none_kept p a (suc n) h =
    let rest = range_with_len (a + 1) n in
    filter-append p (a ∷ []) rest ∙ ap (λ xs. xs ++ filter p rest) (no_one p a (h a (omega arith) (omega arith)))
    ∙ none_kept p (a + 1) n (λ k low high. h k (omega (arith, low)) (omega (arith, high)))

-- one test behind another
pub kept_twice : (p q : ℕ → Bool) (ks : List ℕ) → filter p (filter q ks) ≡ filter (λ k. q k && p k) ks
kept_twice p q [] = refl
kept_twice p q (k ∷ ks) =
    ap (filter p) (filter-append q (k ∷ []) ks) ∙ filter-append p (filter q (k ∷ [])) (filter q ks)
    ∙ ap (λ xs. xs ++ filter p (filter q ks)) (at (q k) refl)
    ∙ ap (λ xs. filter (λ j. q j && p j) (k ∷ []) ++ xs) (kept_twice p q ks)
    ∙ sym (filter-append (λ j. q j && p j) (k ∷ []) ks)
  where
    at : (b : Bool) → q k ≡ b → filter p (filter q (k ∷ [])) ≡ filter (λ j. q j && p j) (k ∷ [])
    at true e = ap (filter p) (one q k e) ∙ same_one p (λ j. q j && p j) k (sym (ap (λ b. b && p k) e))
    at false e = ap (filter p) (no_one q k e) ∙ sym (no_one (λ j. q j && p j) k (ap (λ b. b && p k) e))

-- ---- the order of the witness

front : (p : ℕ → Bool) (from j : ℕ) → from ≤ j
    → filter (nat_le from) (filter p (range_with_len 0 j)) ≡ filter p (range_with_len from (j - from))
front p from j le =
    let all : from + (j - from) ≡ j = omega (arith, le) in
    let both = λ (k : ℕ). p k && nat_le from k in
    kept_twice (nat_le from) p (range_with_len 0 j)
    ∙ ap (λ n. filter both (range_with_len 0 n)) (sym all)
    ∙ ap (filter both) (parts 0 from (j - from))
    ∙ filter-append both (range_with_len 0 from) (range_with_len (0 + from) (j - from))
    ∙ ap (λ xs. xs ++ filter both (range_with_len (0 + from) (j - from)))
    (none_kept both 0 from (λ k low high. before k (omega (arith, high))))
    ∙ ap (λ a. filter both (range_with_len a (j - from))) zero_from
    ∙ same_kept both p from (j - from) (λ k low high. behind k low)
  where
    zero_from : 0 + from ≡ from
    zero_from = omega arith

    before : (k : ℕ) → k < from → (p k && nat_le from k) ≡ false
    before k high = and_no (p k) (nat_le from k) (grind (arith, nat_tests))
      where
        and_no : (a b : Bool) → b ≡ false → (a && b) ≡ false
        and_no true b e = e
        and_no false b e = refl

    behind : (k : ℕ) → from ≤ k → (p k && nat_le from k) ≡ p k
    behind k low = and_yes (p k) (nat_le from k) (grind (arith, nat_tests))
      where
        and_yes : (a b : Bool) → b ≡ true → (a && b) ≡ a
        and_yes true b e = e
        and_yes false b e = refl

pub witness_kept : (run : List Footprint) (race : Pair) (from : ℕ) → from ≤ race.first → race.first < race.second
    → witness_steps run race from ≡ filter (nat_le from) (kept run race.first race.second)
witness_kept run race from low rising =
    let i = race.first in let j = race.second in
    let p = is_other run race in
    sym (filter-append (nat_le from) (filter p (range_with_len 0 j)) (i ∷ j ∷ [])
    ∙ ap (λ xs. xs ++ filter (nat_le from) (i ∷ j ∷ [])) (front p from j (omega (arith, low, rising)))
    ∙ ap (λ xs. filter p (range_with_len from (j - from)) ++ xs) (two i j low (omega (arith, low, rising))))
  where
    two : (i j : ℕ) → from ≤ i → from ≤ j → filter (nat_le from) (i ∷ j ∷ []) ≡ i ∷ j ∷ []
    two i j a b =
        filter-append (nat_le from) (i ∷ []) (j ∷ [])
        ∙ ap (λ xs. xs ++ filter (nat_le from) (j ∷ [])) (one (nat_le from) i (grind (arith, nat_tests)))
        ∙ ap (λ xs. (i ∷ []) ++ xs) (one (nat_le from) j (grind (arith, nat_tests)))

-- ---- each step once

-- the number that is sought is found once
found_once : (i a n : ℕ) → a ≤ i → i < a + n → filter (λ k. k == i) (range_with_len a n) ≡ i ∷ []
found_once i a n low high =
    let first : (i - a) + (n - (i - a)) ≡ n = omega (arith, low, high) in
    let rest : n - (i - a) ≡ suc (n - (i - a) - 1) = omega (arith, low, high) in
    let at : a + (i - a) ≡ i = omega (arith, low) in
    ap (λ m. filter (λ k. k == i) (range_with_len a m)) (sym first)
    ∙ ap (filter (λ k. k == i)) (parts a (i - a) (n - (i - a)))
    ∙ filter-append (λ k. k == i) (range_with_len a (i - a)) (range_with_len (a + (i - a)) (n - (i - a)))
    ∙ ap (λ xs. xs ++ filter (λ k. k == i) (range_with_len (a + (i - a)) (n - (i - a))))
    (none_kept (λ k. k == i) a (i - a) (λ k low' high'. ne_eqb k i (λ e. smaller k low' high' e)))
    ∙ ap (λ b. filter (λ k. k == i) (range_with_len b (n - (i - a)))) at
    ∙ ap (λ m. filter (λ k. k == i) (range_with_len i m)) rest
    ∙ filter-append (λ k. k == i) (i ∷ []) (range_with_len (i + 1) (n - (i - a) - 1))
    ∙ ap (λ xs. xs ++ filter (λ k. k == i) (range_with_len (i + 1) (n - (i - a) - 1)))
    (one (λ k. k == i) i (eq-eqb i i refl))
    ∙ ap (λ xs. (i ∷ []) ++ xs)
    (none_kept (λ k. k == i) (i + 1) (n - (i - a) - 1) (λ k low' high'. ne_eqb k i (λ e. greater k low' e)))
  where
    smaller : (k : ℕ) → a ≤ k → k < a + (i - a) → k ≡ i → ⊥
    smaller k low' high' e = omega (arith, low, high', e)

    greater : (k : ℕ) → i + 1 ≤ k → k ≡ i → ⊥
    greater k low' e = omega (arith, low', e)

not_before : (run : List Footprint) (i : ℕ) → happens_before run i i ≡ false
not_before run i =
    elim (cases_Bool (happens_before run i i)) [
      | inl e ↦ let lt = HappensBefore-before ((happens_before_is run i i).0 e) in absurd (omega (arith, lt))
      | inr e ↦ e
    ]

agree : (a b : Bool) → (b ≡ true → a ≡ false) → (not a && b) ≡ b
agree true true h = sym (h refl)
agree true false h = refl
agree false b h = refl

-- those that the first step doesn't happen before are that step and the others
others : (run : List Footprint) (race : Pair) (a n : ℕ) → a ≤ race.first → race.first < a + n
    → IsPermutation (filter (λ k. not (happens_before run race.first k)) (range_with_len a n))
    (filter (is_other run race) (range_with_len a n) ++ race.first ∷ [])
others run race a n low high =
    let i = race.first in
    let free = λ (k : ℕ). not (happens_before run i k) in
    let ks = range_with_len a n in
    let itself = filter (λ k. k == i) (filter free ks) in
    let those = filter (λ k. not (k == i)) (filter free ks) in
    let one_itself : itself ≡ i ∷ [] =
    kept_twice (λ k. k == i) free ks
    ∙ same_kept (λ k. free k && (k == i)) (λ k. k == i) a n (λ k l h. alone k)
    ∙ found_once i a n low high in
    let other_those : those ≡ filter (is_other run race) ks = kept_twice (λ k. not (k == i)) free ks in
    IsPermutation-trans (filter free ks) (itself ++ those) (filter (is_other run race) ks ++ i ∷ [])
    (IsPermutation-filter_both (λ k. k == i) (λ k. not (k == i)) (λ k. refl) (filter free ks))
    (subst (λ (xs : List ℕ). IsPermutation (itself ++ those) (xs ++ i ∷ [])) other_those
    (subst (λ (xs : List ℕ). IsPermutation (itself ++ those) (those ++ xs)) one_itself
    (IsPermutation-append_comm itself those)))
  where
    alone : (k : ℕ) → (not (happens_before run race.first k) && (k == race.first)) ≡ (k == race.first)
    alone k = agree (happens_before run race.first k) (k == race.first) (λ e.
        ap (happens_before run race.first) (eqb-true k race.first e) ∙ not_before run race.first)

-- the rest of the part is left out or not as the order says
pub each_once : (run : List Footprint) (race : Pair) (span : Span) → RacePair run race.first race.second
    → holds_race span race ≡ true
    → IsPermutation (steps_in span) (witness_steps run race span.from ++ left_out run race span)
each_once run race span pair held =
    let i = race.first in let j = race.second in
    let from = span.from in let n = span.to - span.from in
    let both = and_parts (is_in span i) (is_in span j) held in
    let first = and_parts (nat_le from i) (nat_lt i span.to) both.0 in
    let second = and_parts (nat_le from j) (nat_lt j span.to) both.1 in
    let low : from ≤ i = grind (arith, nat_tests, first.0) in
    let high : j < span.to = grind (arith, nat_tests, second.1) in
    let rising = pair.before in
    let ks = steps_in span in
    let stays = λ (k : ℕ). not (is_left_out run race k) in
    let free = λ (k : ℕ). not (happens_before run i k) in
    let near = range_with_len from (j - from) in
    let kept_ones : filter stays ks ≡ filter free near ++ j ∷ [] =
    ap (λ m. filter stays (range_with_len from m)) (sizes from i j span.to low rising high)
    ∙ ap (filter stays) (parts from (j - from) (1 + (span.to - j - 1)))
    ∙ filter-append stays near (range_with_len (from + (j - from)) (1 + (span.to - j - 1)))
    ∙ ap (λ xs. xs ++ filter stays (range_with_len (from + (j - from)) (1 + (span.to - j - 1))))
    (same_kept stays free from (j - from) (λ k l h. below k (omega (arith, low, rising, h))))
    ∙ ap (λ xs. filter free near ++ xs) (ends (from + (j - from)) (span.to - j - 1) (omega (arith, low, rising))) in
    IsPermutation-trans ks (filter stays ks ++ left_out run race span)
    (witness_steps run race from ++ left_out run race span)
    (IsPermutation-filter_both stays (is_left_out run race) (λ k. twice (is_left_out run race k)) ks)
    (IsPermutation-append_left (left_out run race span) (filter stays ks) (witness_steps run race from)
    (subst (λ (xs : List ℕ). IsPermutation xs (witness_steps run race from)) (sym kept_ones)
    (subst (λ (xs : List ℕ). IsPermutation (filter free near ++ j ∷ []) xs)
    (append_assoc (filter (is_other run race) near) (i ∷ []) (j ∷ []))
    (IsPermutation-append_left (j ∷ []) (filter free near) (filter (is_other run race) near ++ i ∷ [])
    (others run race from (j - from) low (omega (arith, low, rising)))))))
  where
    sizes : (from i j to : ℕ) → from ≤ i → i < j → j < to → to - from ≡ (j - from) + (1 + (to - j - 1))
    sizes from i j to a b c = omega (arith, a, b, c)

    twice : (b : Bool) → b ≡ not (not b)
    twice true = refl
    twice false = refl

    below : (k : ℕ) → k < race.second → not (is_left_out run race k) ≡ not (happens_before run race.first k)
    below k lt =
        let a : nat_lt race.second k ≡ false = grind (arith, nat_tests) in
        let b : nat_lt k race.second ≡ true = grind (arith, nat_tests) in
        ap (λ c. not (c || (nat_lt k race.second && happens_before run race.first k))) a
        ∙ ap (λ c. not (c && happens_before run race.first k)) b

    itself : (k : ℕ) → k ≡ race.second → not (is_left_out run race k) ≡ true
    itself k e =
        let a : nat_lt race.second k ≡ false = grind (arith, nat_tests) in
        let b : nat_lt k race.second ≡ false = grind (arith, nat_tests) in
        ap (λ c. not (c || (nat_lt k race.second && happens_before run race.first k))) a
        ∙ ap (λ c. not (c && happens_before run race.first k)) b

    above : (k : ℕ) → race.second < k → not (is_left_out run race k) ≡ false
    above k lt =
        let a : nat_lt race.second k ≡ true = grind (arith, nat_tests) in
        ap (λ c. not (c || (nat_lt k race.second && happens_before run race.first k))) a

    ends : (b m : ℕ) → b ≡ race.second
        → filter (λ k. not (is_left_out run race k)) (range_with_len b (1 + m)) ≡ race.second ∷ []
    ends b m e =
        let stays = λ (k : ℕ). not (is_left_out run race k) in
        let more : 1 + m ≡ suc m = omega arith in
        ap (λ n. filter stays (range_with_len b n)) more
        ∙ filter-append stays (b ∷ []) (range_with_len (b + 1) m)
        ∙ ap (λ xs. xs ++ filter stays (range_with_len (b + 1) m)) (one stays b (itself b e))
        ∙ ap (λ xs. (b ∷ []) ++ xs)
        (none_kept stays (b + 1) m (λ k low high. above k (omega (arith, e, low))))
        ∙ ap (λ k. k ∷ []) e
