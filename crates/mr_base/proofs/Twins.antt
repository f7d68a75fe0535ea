-- To see that a test holds of no two elements of a list, it is enough to compare neighbours of the list in order.
use Rattle.std.proofs.Common.{◌≡◌, ℕ, suc, ◌+◌, ◌<◌, ◌≤◌, Bool, true, false, List, [], ◌∷◌, All, get_or, refl, sym, ap, subst, ◌∙◌, true≢false, arith, inl, inr, ◌⊎◌}
use Rattle.std.specs.Prelude.{cond, if◌then◌else◌, ◌||◌, ◌==◌, nat_lt}
use Rattle.std.specs.List.{list_any, IsDistinct, AllByRecursion}
use Rattle.std.specs.List.Sorted.{IsPermutation, IsSortedBy}
use Rattle.std.specs.Ordering.{is_lt, nat_cmp, ordering_then}
use Rattle.std.specs.declared.cmp.Ordering.TheVariants.{Less, Equal, Greater}
use Rattle.std.proofs.lemmas.Bool.{or_from, or_parts}
use Rattle.std.proofs.lemmas.Bool.Decides.{nat_tests}
use Rattle.std.proofs.lemmas.List.Elements.{All-cons, All-head, All-nil, All-tail}
use Rattle.std.proofs.lemmas.List.Sorted.{All-permutation, IsPermutation-sym}
use Rattle.std.proofs.lemmas.Map.Keys.{IsDistinct-IsPermutation}
use Rattle.mr_base.specs.Pairs.{some_pair, some_next, some_neighbours, same_pair, are_meeting, not_empty}

module _ {A : Type 0} (test : A → A → Bool) where
  none_of : (x : A) (xs : List A) → list_any (test x) xs ≡ false → AllByRecursion (λ y. test x y ≡ false) xs
  none_of x [] e = tt
  none_of x (y ∷ ys) e = let parts = or_parts (test x y) (list_any (test x) ys) e in (parts.0, none_of x ys parts.1)

  none_from : (x : A) (xs : List A) → AllByRecursion (λ y. test x y ≡ false) xs → list_any (test x) xs ≡ false
  none_from x [] all = refl
  none_from x (y ∷ ys) (here, there) = or_from (test x y) (list_any (test x) ys) here (none_from x ys there)

  -- the test holds of no two elements, as std says it
  pub IsDistinct-some_pair : (xs : List A) → some_pair test xs ≡ false → IsDistinct test xs
  unfolding IsDistinct
  IsDistinct-some_pair [] e = tt
  IsDistinct-some_pair (x ∷ xs) e =
      let parts = or_parts (list_any (test x) xs) (some_pair test xs) e in
      (none_of x xs parts.0, IsDistinct-some_pair xs parts.1)

  pub some_pair-IsDistinct : (xs : List A) → IsDistinct test xs → some_pair test xs ≡ false
  unfolding IsDistinct
  some_pair-IsDistinct [] d = refl
  some_pair-IsDistinct (x ∷ xs) (here, there) = or_from (list_any (test x) xs) (some_pair test xs) (none_from x xs here) (some_pair-IsDistinct xs there)

  -- neighbours are two elements
  next_is_none : (x : A) (xs : List A) → some_pair test (x ∷ xs) ≡ false → some_next test x xs ≡ false
  next_is_none x [] e = refl
  next_is_none x (y ∷ ys) e =
      let parts = or_parts (list_any (test x) (y ∷ ys)) (some_pair test (y ∷ ys)) e in
      or_from (test x y) (some_next test y ys) (or_parts (test x y) (list_any (test x) ys) parts.0).0 (next_is_none y ys parts.1)

  pub some_neighbours-some_pair : (xs : List A) → some_pair test xs ≡ false → some_neighbours test xs ≡ false
  some_neighbours-some_pair [] e = refl
  some_neighbours-some_pair (x ∷ xs) e = next_is_none x xs e

  -- an order that goes through, in which the test holds of none that stand one below the other
  module _ (lt : A → A → Bool) (fine : A → Type 0) (below : A → A → Type 0)
      (follows : (x y z : A) → below x y → below y z → below x z) (apart : (x y : A) → below x y → test x y ≡ false)
      (rises : (x y : A) → fine x → fine y → lt y x ≡ false → test x y ≡ false → below x y) where
    abbrev Chain : A → List A → Type 0
    Chain x [] = Unit {0}
    Chain x (y ∷ ys) = below x y × Chain y ys

    chain_under : (x y : A) (ys : List A) → below x y → Chain y ys → Chain x ys
    chain_under x y [] h c = tt
    chain_under x y (z ∷ zs) h (here, there) = (follows x y z h here, there)

    chain_apart : (x : A) (ys : List A) → Chain x ys → AllByRecursion (λ y. test x y ≡ false) ys
    chain_apart x [] c = tt
    chain_apart x (y ∷ ys) (here, there) = (apart x y here, chain_apart x ys (chain_under x y ys here there))

    chain_distinct : (x : A) (ys : List A) → Chain x ys → IsDistinct test (x ∷ ys)
    unfolding IsDistinct
    chain_distinct x [] c = (tt, tt)
    chain_distinct x (y ∷ ys) (here, there) = (chain_apart x (y ∷ ys) (here, there), chain_distinct y ys there)

    sorted_tail : (x : A) (xs : List A) → IsSortedBy lt (x ∷ xs) → IsSortedBy lt xs
    sorted_tail x xs up k d low high =
        subst (λ m. lt (get_or (x ∷ xs) m d) (get_or xs k d) ≡ false) (e k) (up (suc k) d (omega arith) (omega arith))
      where
        e : (k : ℕ) → suc k + 1 ≡ suc (k + 1)
        e k = omega arith

    chained : (x : A) (xs : List A) → AllByRecursion fine (x ∷ xs) → IsSortedBy lt (x ∷ xs) → some_next test x xs ≡ false → Chain x xs
    chained x [] all up e = tt
    chained x (y ∷ ys) (one, (two, rest)) up e =
        let parts = or_parts (test x y) (some_next test y ys) e in
        (rises x y one two (up 0 x (omega arith) (omega arith)) parts.0, chained y ys (two, rest) (sorted_tail x (y ∷ ys) up) parts.1)

    distinct_neighbours : (xs : List A) → AllByRecursion fine xs → IsSortedBy lt xs → some_neighbours test xs ≡ false → IsDistinct test xs
    unfolding IsDistinct
    distinct_neighbours [] all up e = tt
    distinct_neighbours (x ∷ xs) all up e = chain_distinct x xs (chained x xs all up e)

    -- in a list in order, neighbours tell
    pub some_pair-sorted : (flips : (x y : A) → test x y ≡ test y x) (xs ys : List A) → IsPermutation xs ys → AllByRecursion fine ys → IsSortedBy lt ys
        → some_neighbours test ys ≡ some_pair test xs
    some_pair-sorted flips xs ys moved all up = by (some_neighbours test ys) (some_pair test xs) refl refl
      where
        by : (a b : Bool) → some_neighbours test ys ≡ a → some_pair test xs ≡ b → some_neighbours test ys ≡ some_pair test xs
        by false b e f =
            e ∙ sym (some_pair-IsDistinct xs (IsDistinct-IsPermutation test flips ys xs (IsPermutation-sym xs ys moved) (distinct_neighbours ys all up e)))
        by true true e f = e ∙ sym f
        by true false e f =
            let none = some_neighbours-some_pair ys (some_pair-IsDistinct ys (IsDistinct-IsPermutation test flips xs ys moved (IsDistinct-some_pair xs f))) in
            absurd (true≢false (sym e ∙ none))

-- the order of pairs in which the first numbers count, and then the second ones
abbrev pub pair_lt : ℕ × ℕ → ℕ × ℕ → Bool
pair_lt x y = is_lt (ordering_then (nat_cmp x.0 y.0) (nat_cmp x.1 y.1))

not_lt : (m n : ℕ) → is_lt (nat_cmp m n) ≡ false → n ≤ m
not_lt m n e = by (nat_lt m n) refl
  where
    by : (a : Bool) → nat_lt m n ≡ a → n ≤ m
    by true p = absurd (true≢false (sym (ap (λ t. is_lt (cond t Less (cond (m == n) Equal Greater))) p) ∙ e))
    by false p = grind (arith, nat_tests)

pair_le : (x y : ℕ × ℕ) → pair_lt y x ≡ false → (x.0 < y.0) ⊎ ((x.0 ≡ y.0) × (x.1 ≤ y.1))
pair_le x y e = by (nat_lt y.0 x.0) (y.0 == x.0) refl refl
  where
    by : (a b : Bool) → nat_lt y.0 x.0 ≡ a → (y.0 == x.0) ≡ b → (x.0 < y.0) ⊎ ((x.0 ≡ y.0) × (x.1 ≤ y.1))
    by true b p q = absurd (true≢false (sym (ap (λ t. is_lt (ordering_then (cond t Less (cond (y.0 == x.0) Equal Greater)) (nat_cmp y.1 x.1))) p) ∙ e))
    by false true p q =
        let h : x.0 ≡ y.0 = grind (arith, nat_tests) in
        let f = sym (ap (λ t. is_lt (ordering_then (cond t Less (cond (y.0 == x.0) Equal Greater)) (nat_cmp y.1 x.1))) p ∙ ap (λ t. is_lt (ordering_then (cond false Less (cond t Equal Greater)) (nat_cmp y.1 x.1))) q) ∙ e in
        inr (h, not_lt y.1 x.1 f)
    by false false p q = let h : x.0 < y.0 = grind (arith, nat_tests) in inl h

-- one pair before another, the second numbers too
abbrev pub PairBelow : ℕ × ℕ → ℕ × ℕ → Type 0
PairBelow x y = (x.0 < y.0) ⊎ ((x.0 ≡ y.0) × (x.1 < y.1))

pair_follows : (x y z : ℕ × ℕ) → PairBelow x y → PairBelow y z → PairBelow x z
pair_follows x y z (inl a) (inl b) = inl (omega arith)
pair_follows x y z (inl a) (inr b) = inl (omega (arith, b.0))
pair_follows x y z (inr a) (inl b) = inl (omega (arith, a.0))
pair_follows x y z (inr a) (inr b) = inr (a.0 ∙ b.0, omega (arith, a.1, b.1))

pair_apart : (x y : ℕ × ℕ) → PairBelow x y → same_pair x y ≡ false
pair_apart x y (inl a) = grind (arith, nat_tests)
pair_apart x y (inr a) = let h : x.1 < y.1 = a.1 in grind (arith, nat_tests)

pair_rises : (x y : ℕ × ℕ) → pair_lt y x ≡ false → same_pair x y ≡ false → PairBelow x y
pair_rises x y e f = by (pair_le x y e)
  where
    by : (x.0 < y.0) ⊎ ((x.0 ≡ y.0) × (x.1 ≤ y.1)) → PairBelow x y
    by (inl a) = inl a
    by (inr (a, b)) = let h : x.1 < y.1 = grind (arith, nat_tests) in inr (a, h)

pair_flips : (x y : ℕ × ℕ) → same_pair x y ≡ same_pair y x
pair_flips x y = grind (arith, nat_tests)

each : {A : Type 0} (P : A → Type 0) (xs : List A) → All P xs → AllByRecursion P xs
each P [] all = tt
each P (x ∷ xs) all = (All-head P x xs all, each P xs (All-tail P x xs all))

all_fine : {A : Type 0} (xs : List A) → AllByRecursion (λ x. Unit {0}) xs
all_fine [] = tt
all_fine (x ∷ xs) = (tt, all_fine xs)

-- a pair stands twice in a list where it stands twice in a row in the list in order
pub same_pair_sorted : (xs ys : List (ℕ × ℕ)) → IsPermutation xs ys → IsSortedBy pair_lt ys → some_neighbours same_pair ys ≡ some_pair same_pair xs
same_pair_sorted xs ys moved up =
    some_pair-sorted same_pair pair_lt (λ x. Unit {0}) PairBelow pair_follows pair_apart (λ x y p q. pair_rises x y) pair_flips xs ys moved (all_fine ys) up

-- a range that ends where another begins, or before
abbrev pub RangeBelow : ℕ × ℕ → ℕ × ℕ → Type 0
RangeBelow x y = x.0 + x.1 ≤ y.0

range_rises : (x y : ℕ × ℕ) → 0 < x.1 → 0 < y.1 → pair_lt y x ≡ false → are_meeting x y ≡ false → RangeBelow x y
range_rises x y some more e f =
    let low : x.0 ≤ y.0 = by (pair_le x y e) in
    grind (arith, nat_tests)
  where
    by : (x.0 < y.0) ⊎ ((x.0 ≡ y.0) × (x.1 ≤ y.1)) → x.0 ≤ y.0
    by (inl a) = omega arith
    by (inr a) = omega (arith, a.0)

range_apart : (x y : ℕ × ℕ) → RangeBelow x y → are_meeting x y ≡ false
range_apart x y h = grind (arith, nat_tests)

range_flips : (x y : ℕ × ℕ) → are_meeting x y ≡ are_meeting y x
range_flips x y = grind (arith, nat_tests)

range_follows : (x y z : ℕ × ℕ) → RangeBelow x y → RangeBelow y z → RangeBelow x z
range_follows x y z a b = omega arith

-- two ranges of a list, none of which is empty, meet where two in a row meet in the list in order
pub are_meeting_sorted : (xs ys : List (ℕ × ℕ)) → IsPermutation xs ys → All (λ x. 0 < x.1) xs → IsSortedBy pair_lt ys
    → some_neighbours are_meeting ys ≡ some_pair are_meeting xs
are_meeting_sorted xs ys moved some up =
    some_pair-sorted are_meeting pair_lt (λ x. 0 < x.1) RangeBelow range_follows range_apart range_rises range_flips xs ys moved (each (λ x. 0 < x.1) ys (All-permutation (λ x. 0 < x.1) xs ys moved some)) up

-- ranges without a byte meet none
empty_meets : (x y : ℕ × ℕ) → nat_lt 0 y.1 ≡ false → are_meeting x y ≡ false
empty_meets x y e = grind (arith, nat_tests)

empty_meets_none : (x : ℕ × ℕ) (ranges : List (ℕ × ℕ)) → nat_lt 0 x.1 ≡ false → list_any (are_meeting x) ranges ≡ false
empty_meets_none x [] e = refl
empty_meets_none x (r ∷ ranges) e = or_from (are_meeting x r) (list_any (are_meeting x) ranges) (range_flips x r ∙ empty_meets r x e) (empty_meets_none x ranges e)

meets_not_empty : (x : ℕ × ℕ) (ranges : List (ℕ × ℕ)) → list_any (are_meeting x) (not_empty ranges) ≡ list_any (are_meeting x) ranges
meets_not_empty x [] = refl
meets_not_empty x (r ∷ ranges) = by (meets_not_empty x ranges) (nat_lt 0 r.1) refl
  where
    by : list_any (are_meeting x) (not_empty ranges) ≡ list_any (are_meeting x) ranges → (b : Bool) → nat_lt 0 r.1 ≡ b → list_any (are_meeting x) (if nat_lt 0 r.1 then r ∷ not_empty ranges else not_empty ranges) ≡ list_any (are_meeting x) (r ∷ ranges)
    by rest true e = ap (λ b. list_any (are_meeting x) (if b then r ∷ not_empty ranges else not_empty ranges)) e ∙ ap (λ b. are_meeting x r || b) rest
    by rest false e =
        ap (λ b. list_any (are_meeting x) (if b then r ∷ not_empty ranges else not_empty ranges)) e ∙ rest
        ∙ sym (ap (λ b. b || list_any (are_meeting x) ranges) (empty_meets x r e))

-- so those that have one tell
pub some_pair_not_empty : (ranges : List (ℕ × ℕ)) → some_pair are_meeting (not_empty ranges) ≡ some_pair are_meeting ranges
some_pair_not_empty [] = refl
some_pair_not_empty (r ∷ ranges) = by (some_pair_not_empty ranges) (nat_lt 0 r.1) refl
  where
    by : some_pair are_meeting (not_empty ranges) ≡ some_pair are_meeting ranges → (b : Bool) → nat_lt 0 r.1 ≡ b → some_pair are_meeting (if nat_lt 0 r.1 then r ∷ not_empty ranges else not_empty ranges) ≡ some_pair are_meeting (r ∷ ranges)
    by rest true e =
        ap (λ b. some_pair are_meeting (if b then r ∷ not_empty ranges else not_empty ranges)) e
        ∙ (λ i. meets_not_empty r ranges i || rest i)
    by rest false e =
        ap (λ b. some_pair are_meeting (if b then r ∷ not_empty ranges else not_empty ranges)) e ∙ rest
        ∙ sym (ap (λ b. b || some_pair are_meeting ranges) (empty_meets_none r ranges e))

all_cons : (r : ℕ × ℕ) (ranges : List (ℕ × ℕ)) → 0 < r.1 → All (λ x. 0 < x.1) ranges → All (λ x. 0 < x.1) (r ∷ ranges)
all_cons r ranges one rest = All-cons (λ x. 0 < x.1) r ranges one rest

pub all_not_empty : (ranges : List (ℕ × ℕ)) → All (λ x. 0 < x.1) (not_empty ranges)
all_not_empty [] = All-nil (λ x. 0 < x.1)
all_not_empty (r ∷ ranges) = by (all_not_empty ranges) (nat_lt 0 r.1) refl
  where
    by : All (λ x. 0 < x.1) (not_empty ranges) → (b : Bool) → nat_lt 0 r.1 ≡ b → All (λ x. 0 < x.1) (if nat_lt 0 r.1 then r ∷ not_empty ranges else not_empty ranges)
    by rest true e =
        let one : 0 < r.1 = grind (arith, nat_tests) in
        subst (λ b. All (λ x. 0 < x.1) (if b then r ∷ not_empty ranges else not_empty ranges)) (sym e) (all_cons r (not_empty ranges) one rest)
    by rest false e = subst (λ b. All (λ x. 0 < x.1) (if b then r ∷ not_empty ranges else not_empty ranges)) (sym e) rest
