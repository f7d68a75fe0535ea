-- Groups in the order of a stable sort by falling counts.
use Rattle.mr_listing.proofs.Common.{◌≡◌, ℕ, zero, suc, ◌<◌, ◌≤◌, Bool, true, false, cond, arith, List, [], ◌∷◌, ◌++◌, length, get_or, refl, sym, ap, ap₂, ◌∙◌, subst, nat_tests, filter_agree, IsStrictWeakOrder, ◌&&◌, ◌==◌, not, nat_lt, All, filter, IsPermutation, IsSortedBy, IsStableBy, ties, is_lt, nat_cmp, Group, by_count}
use Rattle.std.proofs.lemmas.List.Sorted.{All-permutation, IsPermutation-append_right, IsPermutation-filter_both, IsPermutation-refl, IsPermutation-trans, sorted_far}
use Rattle.mr_listing.specs.Races.{has_count}
use Rattle.mr_listing.proofs.PartnerLaws.{compared, filter_twice}

-- ---- falling counts

-- none has more races
abbrev AtMost : ℕ → List Group → Type 0
AtMost most [] = Unit {0}
AtMost most (g ∷ gs) = (g.count ≤ most) × AtMost most gs

-- no later one has more races
abbrev Falling : List Group → Type 0
Falling [] = Unit {0}
Falling (g ∷ gs) = AtMost g.count gs × Falling gs

at_most_from : (most : ℕ) (gs : List Group) → All (λ (g : Group). g.count ≤ most) gs → AtMost most gs
at_most_from most [] h = tt
at_most_from most (g ∷ gs) h =
    (h 0 g (omega arith), at_most_from most gs (λ k d l. h (suc k) d (omega arith)))

falling_from : (gs : List Group)
    → ((i j : ℕ) (d : Group) → i ≤ j → j < length gs → (get_or gs j d).count ≤ (get_or gs i d).count) → Falling gs
falling_from [] h = tt
falling_from (g ∷ gs) h = (
  at_most_from g.count gs (λ k d l. h 0 (suc k) d (omega arith) (omega arith)),
  falling_from gs (λ i j d l m. h (suc i) (suc j) d (omega arith) (omega arith)),
)

-- those that don't have so many races
abbrev rest : ℕ → Group → Bool
rest count g = not (has_count count g)

at_most_rest : (most count : ℕ) (gs : List Group) → AtMost most gs → AtMost most (filter (rest count) gs)
at_most_rest most count [] h = tt
at_most_rest most count (g ∷ gs) h = by_test (g.count == count) (at_most_rest most count gs h.1)
  where
    by_test : (b : Bool) → AtMost most (filter (rest count) gs)
        → AtMost most (cond (not b) (g ∷ filter (rest count) gs) (filter (rest count) gs))
    by_test true later = later
    by_test false later = (h.0, later)

falling_rest : (count : ℕ) (gs : List Group) → Falling gs → Falling (filter (rest count) gs)
falling_rest count [] h = tt
falling_rest count (g ∷ gs) h = by_test (g.count == count) (falling_rest count gs h.1)
  where
    by_test : (b : Bool) → Falling (filter (rest count) gs)
        → Falling (cond (not b) (g ∷ filter (rest count) gs) (filter (rest count) gs))
    by_test true later = later
    by_test false later = (at_most_rest g.count count gs h.0, later)

-- ---- numbers

other : (a n : ℕ) → a < n → (a == n) ≡ false
other a n h = grind (arith, nat_tests)

smaller : (a n : ℕ) → a ≤ n → (a == n) ≡ false → a < n
smaller a n h e = grind (arith, nat_tests)

is_none : (a : ℕ) → a ≤ 0 → (a == 0) ≡ true
is_none a h = grind (arith, nat_tests)

other_count : (a k m : ℕ) → k < m → (not (a == m) && (a == k)) ≡ (a == k)
other_count a k m h = grind (arith, nat_tests)

not_above : (a b : ℕ) → nat_lt a b ≡ false → b ≤ a
not_above a b e = grind (arith, nat_tests)

tied : (a b : ℕ) → (not (nat_lt b a) && not (nat_lt a b)) ≡ (b == a)
tied a b = grind (arith, nat_tests)

-- ---- those of the most races come first

none_of : (count most : ℕ) (gs : List Group) → AtMost most gs → most < count → filter (has_count count) gs ≡ []
none_of count most [] h l = refl
none_of count most (g ∷ gs) h l =
    let le = h.0 in
    ap (λ b. cond b (g ∷ filter (has_count count) gs) (filter (has_count count) gs)) (other g.count count (omega arith))
    ∙ none_of count most gs h.1 l

all_rest : (count most : ℕ) (gs : List Group) → AtMost most gs → most < count → filter (rest count) gs ≡ gs
all_rest count most [] h l = refl
all_rest count most (g ∷ gs) h l =
    let le = h.0 in
    ap (λ b. cond (not b) (g ∷ filter (rest count) gs) (filter (rest count) gs)) (other g.count count (omega arith))
    ∙ ap (λ (ys : List Group). g ∷ ys) (all_rest count most gs h.1 l)

first_come : (count : ℕ) (gs : List Group) → AtMost count gs → Falling gs
    → gs ≡ filter (has_count count) gs ++ filter (rest count) gs
first_come count [] h f = refl
first_come count (g ∷ gs) h f = by_test (g.count == count) refl (first_come count gs h.1 f.1)
  where
    by_test : (b : Bool) → (g.count == count) ≡ b → gs ≡ filter (has_count count) gs ++ filter (rest count) gs
        → g ∷ gs
        ≡ cond b (g ∷ filter (has_count count) gs) (filter (has_count count) gs)
        ++ cond (not b) (g ∷ filter (rest count) gs) (filter (rest count) gs)
    by_test true is later = ap (λ (ys : List Group). g ∷ ys) later
    by_test false is later =
        let less = smaller g.count count h.0 is in
        sym (ap₂ (λ (xs ys : List Group). xs ++ g ∷ ys) (none_of count g.count gs f.0 less)
        (all_rest count g.count gs f.0 less))

-- those of fewer races
fewer : (most : ℕ) (gs : List Group) → AtMost (suc most) gs → AtMost most (filter (rest (suc most)) gs)
fewer most [] h = tt
fewer most (g ∷ gs) h = by_test (g.count == suc most) refl (fewer most gs h.1)
  where
    by_test : (b : Bool) → (g.count == suc most) ≡ b → AtMost most (filter (rest (suc most)) gs)
        → AtMost most (cond (not b) (g ∷ filter (rest (suc most)) gs) (filter (rest (suc most)) gs))
    by_test true is later = later
    by_test false is later = let less = smaller g.count (suc most) h.0 is in (omega arith, later)

-- are as before where those of more are left out
kept : (k m : ℕ) → k < m → (gs : List Group) → filter (has_count k) (filter (rest m) gs) ≡ filter (has_count k) gs
kept k m l gs =
    filter_twice (rest m) (has_count k) gs
    ∙ filter_agree (λ (g : Group). rest m g && has_count k g) (has_count k) (λ g. other_count g.count k m l) gs

skipped : (n m : ℕ) → n < m → (gs : List Group) → by_count n (filter (rest m) gs) ≡ by_count n gs
skipped zero m l gs = kept 0 m l gs
skipped (suc n) m l gs =
    ap₂ (λ (xs ys : List Group). xs ++ ys) (kept (suc n) m l gs) (skipped n m (omega arith) gs)

all_none : (gs : List Group) → AtMost 0 gs → filter (has_count 0) gs ≡ gs
all_none [] h = refl
all_none (g ∷ gs) h =
    ap (λ b. cond b (g ∷ filter (has_count 0) gs) (filter (has_count 0) gs)) (is_none g.count h.0)
    ∙ ap (λ (ys : List Group). g ∷ ys) (all_none gs h.1)

in_order : (most : ℕ) (gs : List Group) → AtMost most gs → Falling gs → gs ≡ by_count most gs
in_order zero gs h f = sym (all_none gs h)
in_order (suc most) gs h f =
    first_come (suc most) gs h f
    ∙ ap (λ (ys : List Group). filter (has_count (suc most)) gs ++ ys)
    (in_order most (filter (rest (suc most)) gs) (fewer most gs h) (falling_rest (suc most) gs f)
    ∙ skipped most (suc most) (omega arith) gs)

same_counts : (most : ℕ) (xs ys : List Group) → ((k : ℕ) → filter (has_count k) ys ≡ filter (has_count k) xs)
    → by_count most ys ≡ by_count most xs
same_counts zero xs ys h = h 0
same_counts (suc most) xs ys h =
    ap₂ (λ (us vs : List Group). us ++ vs) (h (suc most)) (same_counts most xs ys h)

-- ---- a stable sort

-- that a group comes in front of another one
abbrev pub comes_first : Group → Group → Bool
comes_first a b = is_lt (nat_cmp b.count a.count)

same_count : (k : ℕ) (like : Group) → like.count ≡ k → (g : Group) → ties comes_first like g ≡ has_count k g
same_count k like is g =
    ap₂ (λ (a b : Bool). not a && not b) (compared g.count like.count) (compared like.count g.count)
    ∙ tied like.count g.count ∙ ap (λ n. g.count == n) is

-- A STABLE SORT by falling counts leaves them as they are defined
pub ranked_by_sort : (most : ℕ) (old new : List Group) → IsStrictWeakOrder comes_first
    → All (λ (g : Group). g.count ≤ most) old → IsPermutation old new → IsSortedBy comes_first new
    → IsStableBy comes_first old new → new ≡ by_count most old
ranked_by_sort most old new order few moved sorted stable =
    in_order most new
    (at_most_from most new (All-permutation (λ (g : Group). g.count ≤ most) old new moved few))
    (falling_from new
    (λ i j d l m.
    not_above (get_or new i d).count (get_or new j d).count
    (sym (compared (get_or new i d).count (get_or new j d).count) ∙ sorted_far comes_first order new sorted i j d l m)))
    ∙ same_counts most old new
    (λ k.
    let like : Group = record { first = record { first = 0; second = 0 }; count = k } in
    sym (filter_agree (ties comes_first like) (has_count k) (same_count k like refl) new)
    ∙ stable like
    ∙ filter_agree (ties comes_first like) (has_count k) (same_count k like refl) old)

-- ---- the order is a permutation

permuted : (most : ℕ) (gs : List Group) → AtMost most gs → IsPermutation gs (by_count most gs)
permuted zero gs h = subst (IsPermutation gs) (sym (all_none gs h)) (IsPermutation-refl gs)
permuted (suc most) gs h =
    let later = filter (rest (suc most)) gs in
    IsPermutation-trans gs (filter (has_count (suc most)) gs ++ later) (by_count (suc most) gs)
    (IsPermutation-filter_both (has_count (suc most)) (rest (suc most)) (λ g. refl) gs)
    (IsPermutation-append_right (filter (has_count (suc most)) gs) later (by_count most gs)
    (subst (IsPermutation later) (skipped most (suc most) (omega arith) gs) (permuted most later (fewer most gs h))))

-- groups with so many races at most, by their counts
pub by_count_permutes : (most : ℕ) (gs : List Group) → All (λ (g : Group). g.count ≤ most) gs
    → IsPermutation gs (by_count most gs)
by_count_permutes most gs h = permuted most gs (at_most_from most gs h)
