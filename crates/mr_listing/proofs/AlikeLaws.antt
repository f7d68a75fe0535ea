-- The races of one pair of places among the races by their places: how many there are, and which is the first.
use Rattle.mr_listing.proofs.Common.{◌≡◌, ℕ, zero, suc, ◌+◌, ◌<◌, Bool, true, false, cond, arith, List, [], ◌∷◌, ◌++◌, length, append-nil, get_or, take, refl, sym, ap, ap₂, ◌∙◌, nat_tests, take_more, filter_agree, ranks_by, IsStrictWeakOrder, ◌&&◌, ◌||◌, ◌==◌, not, if◌then◌else◌, nat_le, nat_lt, Option, None, Some, slice_get, filter, list_any, IsSortedBy, IsStableBy, ties, is_eq, is_lt, nat_cmp, Pair, Stand, Group, Numbered, before_of, first_group, group_of, same_places, same_stand, Seen, with_numbers, place_index}
use Rattle.std.proofs.lemmas.Cmp.{nat_cmp_total, on_total, then_total}
use Rattle.std.proofs.lemmas.List.Sorted.{searchable_from_sorted}
use Rattle.std.proofs.lemmas.List.Sums.{length-filter}
use Rattle.std.specs.Cmp.{IsTotalOrder}
use Rattle.std.specs.Cmp.Lexicographic.{options_total}
use Rattle.std.specs.Prelude.{count_by}
use Rattle.std.specs.Ordering.{ordering_index, ordering_reverse, ordering_then}
use Rattle.std.specs.declared.cmp.Ordering.{Ordering}
use Rattle.std.specs.declared.cmp.Ordering.TheVariants.{Equal, Greater, Less}
use Rattle.mr_listing.specs.Sorted.{AreByPlaces, begins_before, is_alike, places_cmp, spot_cmp, stand_cmp}
use Rattle.mr_listing.proofs.OnceLaws.{places_turned}
use Rattle.mr_listing.proofs.PartnerLaws.{filter_twice}

-- ---- the order of places

spot_total : IsTotalOrder spot_cmp
spot_total =
    then_total
    (then_total (on_total (λ (a : Stand). a.function) nat_cmp_total) (on_total (λ (a : Stand). a.block) nat_cmp_total))
    (on_total (λ (a : Stand). a.at) nat_cmp_total)

stand_total : IsTotalOrder stand_cmp
stand_total = options_total spot_total

-- two orders that tie, and numbers that do
pub eq_then : (r q : Ordering) → is_eq (ordering_then r q) ≡ (is_eq r && is_eq q)
eq_then Less q = refl
eq_then Equal q = refl
eq_then Greater q = refl

pub eq_numbers : (a b : ℕ) → is_eq (nat_cmp a b) ≡ (a == b)
eq_numbers a b = grind (arith, nat_tests)

all_three : (a b d : Bool) → ((a && b) && d) ≡ (a && (b && d))
all_three true b d = refl
all_three false b d = refl

eq_spots : (a b : Stand) → is_eq (spot_cmp a b) ≡ same_stand (Some a) (Some b)
eq_spots a b =
    eq_then (ordering_then (nat_cmp a.function b.function) (nat_cmp a.block b.block)) (nat_cmp a.at b.at)
    ∙ ap₂ (λ (x y : Bool). x && y)
    (eq_then (nat_cmp a.function b.function) (nat_cmp a.block b.block)
    ∙ ap₂ (λ (x y : Bool). x && y) (eq_numbers a.function b.function) (eq_numbers a.block b.block))
    (eq_numbers a.at b.at)
    ∙ all_three (a.function == b.function) (a.block == b.block) (a.at == b.at)

eq_stands : (a b : Option Stand) → is_eq (stand_cmp a b) ≡ same_stand a b
eq_stands None None = refl
eq_stands None (Some b) = refl
eq_stands (Some a) None = refl
eq_stands (Some a) (Some b) = eq_spots a b

-- what ties in a stable sort, and what two searches leave
tied : (r q : Ordering) → r ≡ ordering_reverse q → (not (is_lt r) && not (is_lt q)) ≡ is_eq r
tied r q e = ap (λ (x : Ordering). not (is_lt x) && not (is_lt q)) e ∙ by_other q ∙ sym (ap is_eq e)
  where
    by_other : (q : Ordering) → (not (is_lt (ordering_reverse q)) && not (is_lt q)) ≡ is_eq (ordering_reverse q)
    by_other Less = refl
    by_other Equal = refl
    by_other Greater = refl

found : (r : Ordering) → (not (nat_lt (ordering_index r) 1) && nat_le (ordering_index r) 1) ≡ is_eq r
found Less = refl
found Equal = refl
found Greater = refl

-- ---- numbers

numbered_append : (n : ℕ) (xs : List Pair) (x : Pair)
    → with_numbers n (xs ++ x ∷ []) ≡ with_numbers n xs ++ record { pair = x; number = n + length xs } ∷ []
numbered_append n [] x =
    let e : n ≡ n + 0 = omega arith in
    ap (λ k. record { pair = x; number = k } ∷ []) e
numbered_append n (y ∷ ys) x =
    let e : n + 1 + length ys ≡ n + suc (length ys) = omega arith in
    ap (λ (l : List Numbered). record { pair = y; number = n } ∷ l)
    (numbered_append (n + 1) ys x ∙ ap (λ k. with_numbers (n + 1) ys ++ record { pair = x; number = k } ∷ []) e)

length_numbered : (n : ℕ) (xs : List Pair) → length (with_numbers n xs) ≡ length xs
length_numbered n [] = refl
length_numbered n (x ∷ xs) = ap suc (length_numbered (n + 1) xs)

-- one race more has its number
pub one_more : (xs : List Pair) (i : ℕ) (d : Pair) → i < length xs → (all next : List Numbered) (n : ℕ)
    → all ≡ with_numbers 0 (take i xs) → n ≡ length all → next ≡ all ++ record { pair = get_or xs i d; number = n } ∷ []
    → next ≡ with_numbers 0 (take (i + 1) xs)
one_more xs i d inside all next n so_far is pushed =
    let from : length (take i xs) ≡ 0 + length (take i xs) = omega arith in
    let count : n ≡ 0 + length (take i xs) = is ∙ ap length so_far ∙ length_numbered 0 (take i xs) ∙ from in
    pushed ∙ ap₂ (λ (l : List Numbered) (k : ℕ). l ++ record { pair = get_or xs i d; number = k } ∷ []) so_far count
    ∙ sym (numbered_append 0 (take i xs) (get_or xs i d)) ∙ ap (with_numbers 0) (sym (take_more xs i d inside))

-- how many of them pass a test
counted_from : (f : Pair → Bool) (n : ℕ) (xs : List Pair)
    → length (filter (λ (x : Numbered). f x.pair) (with_numbers n xs)) ≡ length (filter f xs)
counted_from f n [] = refl
counted_from f n (x ∷ xs) = by_test (f x) (counted_from f (n + 1) xs)
  where
    by_test : (b : Bool) → length (filter (λ (x : Numbered). f x.pair) (with_numbers (n + 1) xs)) ≡ length (filter f xs)
        → length (cond b (record { pair = x; number = n } ∷ filter (λ (x : Numbered). f x.pair) (with_numbers (n + 1) xs))
        (filter (λ (x : Numbered). f x.pair) (with_numbers (n + 1) xs)))
        ≡ length (cond b (x ∷ filter f xs) (filter f xs))
    by_test true later = ap suc later
    by_test false later = later

or_true : (b : Bool) → (b || true) ≡ true
or_true true = refl
or_true false = refl

-- one that passes a test is among the first ones
pub any_taken : {X : Type 0} (f : X → Bool) (xs : List X) (n k : ℕ) (x : X) → slice_get xs k ≡ Some x → k < n → f x ≡ true
    → list_any f (take n xs) ≡ true
any_taken f [] n k x at lt e = absurd (cc)
any_taken f (y ∷ ys) zero k x at lt e = absurd (omega (arith, lt))
any_taken f (y ∷ ys) (suc n) zero x at lt e =
    let same : y ≡ x = cc in ap (λ (b : Bool). b || list_any f (take n ys)) (ap f same ∙ e)
any_taken f (y ∷ ys) (suc n) (suc k) x at lt e =
    ap (λ (b : Bool). f y || b) (any_taken f ys n k x at (omega (arith, lt)) e) ∙ or_true (f y)

-- whether one of the first races passes a test: the first that does has a lower number
begins_from : (f : Pair → Bool) (n k : ℕ) (xs : List Pair)
    → list_any f (take k xs)
    ≡ begins_before (n + k) (slice_get (filter (λ (x : Numbered). f x.pair) (with_numbers n xs)) 0)
begins_from f n zero [] = refl
begins_from f n (suc k) [] = refl
begins_from f n zero (x ∷ xs) = by_test (f x) (begins_from f (n + 1) zero xs)
  where
    none : false ≡ nat_lt n (n + 0)
    none = grind (arith, nat_tests)

    low : (o : Option Numbered) → false ≡ begins_before (n + 1 + 0) o → false ≡ begins_before (n + 0) o
    low None h = refl
    low (Some first) h = grind (arith, nat_tests)

    by_test : (b : Bool)
        → false ≡ begins_before (n + 1 + 0) (slice_get (filter (λ (x : Numbered). f x.pair) (with_numbers (n + 1) xs)) 0)
        → false
        ≡ begins_before (n + 0)
        (slice_get (cond b (record { pair = x; number = n } ∷ filter (λ (x : Numbered). f x.pair) (with_numbers (n + 1) xs))
        (filter (λ (x : Numbered). f x.pair) (with_numbers (n + 1) xs))) 0)
    by_test true later = none
    by_test false later = low (slice_get (filter (λ (x : Numbered). f x.pair) (with_numbers (n + 1) xs)) 0) later
begins_from f n (suc k) (x ∷ xs) = by_test (f x) (begins_from f (n + 1) k xs)
  where
    low : true ≡ nat_lt n (n + suc k)
    low = grind (arith, nat_tests)

    same : n + 1 + k ≡ n + suc k
    same = omega arith

    by_test : (b : Bool)
        → list_any f (take k xs)
        ≡ begins_before (n + 1 + k) (slice_get (filter (λ (x : Numbered). f x.pair) (with_numbers (n + 1) xs)) 0)
        → (b || list_any f (take k xs))
        ≡ begins_before (n + suc k)
        (slice_get (cond b (record { pair = x; number = n } ∷ filter (λ (x : Numbered). f x.pair) (with_numbers (n + 1) xs))
        (filter (λ (x : Numbered). f x.pair) (with_numbers (n + 1) xs))) 0)
    by_test true later = low
    by_test false later =
        later
        ∙ ap (λ m. begins_before m (slice_get (filter (λ (x : Numbered). f x.pair) (with_numbers (n + 1) xs)) 0)) same

module _ (s : Seen) where
  abbrev at_step : ℕ → Option Stand
  at_step number = before_of (slice_get s.stands number)

  pub places_total : IsTotalOrder (places_cmp s)
  places_total =
      then_total (on_total (λ (p : Pair). at_step p.first) stand_total) (on_total (λ (p : Pair). at_step p.second) stand_total)

  -- races that tie are of the same places
  pub eq_places : (a b : Pair) → is_eq (places_cmp s a b) ≡ same_places s a b
  eq_places a b =
      eq_then (stand_cmp (at_step a.first) (at_step b.first)) (stand_cmp (at_step a.second) (at_step b.second))
      ∙ ap₂ (λ (x y : Bool). x && y) (eq_stands (at_step a.first) (at_step b.first))
      (eq_stands (at_step a.second) (at_step b.second))

  -- that a race lies before another one
  abbrev pub lies_first : Numbered → Numbered → Bool
  lies_first a b = is_lt (places_cmp s a.pair b.pair)

  pub lies_in_order : IsStrictWeakOrder lies_first
  lies_in_order = ranks_by places_total (λ (n : Numbered). n.pair)

  ties_alike : (like n : Numbered) → ties lies_first like n ≡ is_alike s like.pair n
  ties_alike like n =
      tied (places_cmp s like.pair n.pair) (places_cmp s n.pair like.pair) (places_total.antisymm like.pair n.pair)
      ∙ eq_places like.pair n.pair

  -- A STABLE SORT leaves them by their places
  pub sorted_races : (all sorted : List Numbered) → all ≡ with_numbers 0 s.races → IsSortedBy lies_first sorted
      → IsStableBy lies_first all sorted → AreByPlaces s sorted
  sorted_races all sorted is up stable = record {
    rising = λ pair. searchable_from_sorted places_total (λ (n : Numbered). n.pair) sorted pair up;
    alike = λ pair.
        let like : Numbered = record { pair = pair; number = 0 } in
        sym (filter_agree (ties lies_first like) (is_alike s pair) (ties_alike like) sorted)
        ∙ stable like
        ∙ filter_agree (ties lies_first like) (is_alike s pair) (ties_alike like) all
        ∙ ap (filter (is_alike s pair)) is;
  }

  module _ (pair : Pair) where
    found_alike : (n : Numbered) → (not (nat_lt (place_index s pair n) 1) && nat_le (place_index s pair n) 1) ≡ is_alike s pair n
    found_alike n = found (places_cmp s n.pair pair) ∙ eq_places n.pair pair ∙ places_turned s n.pair pair

    -- one that an earlier race is like begins no group
    pub none_begun : (number : ℕ) → list_any (same_places s pair) (take number s.races) ≡ true → (groups : List Group)
        → groups ≡ groups ++ first_group s number (Some pair)
    none_begun number early groups =
        sym (append-nil groups) ∙ ap (λ (b : Bool). groups ++ (if b then [] else group_of s pair ∷ [])) (sym early)

    -- two searches leave those of the same places
    pub of_one_place : (xs : List Numbered)
        → filter (λ n. nat_le (place_index s pair n) 1) (filter (λ n. not (nat_lt (place_index s pair n) 1)) xs)
        ≡ filter (is_alike s pair) xs
    of_one_place xs =
        filter_twice (λ n. not (nat_lt (place_index s pair n) 1)) (λ n. nat_le (place_index s pair n) 1) xs
        ∙ filter_agree (λ n. not (nat_lt (place_index s pair n) 1) && nat_le (place_index s pair n) 1) (is_alike s pair) found_alike xs

    -- how many there are
    pub count_alike : (alike : List Numbered) → alike ≡ filter (is_alike s pair) (with_numbers 0 s.races)
        → length alike ≡ count_by (same_places s pair) s.races
    count_alike alike is =
        ap length is ∙ counted_from (same_places s pair) 0 s.races ∙ length-filter (same_places s pair) s.races

    module _ (number : ℕ) (alike : List Numbered) (is : alike ≡ filter (is_alike s pair) (with_numbers 0 s.races)) where
      known_is : list_any (same_places s pair) (take number s.races) ≡ begins_before number (slice_get alike 0)
      known_is =
          let e : 0 + number ≡ number = omega arith in
          begins_from (same_places s pair) 0 number s.races
          ∙ ap₂ (λ (m : ℕ) (l : List Numbered). begins_before m (slice_get l 0)) e (sym is)

      -- one that an earlier race is like begins no group
      pub none_added : begins_before number (slice_get alike 0) ≡ true → (groups : List Group)
          → groups ≡ groups ++ first_group s number (Some pair)
      none_added early groups = none_begun number (known_is ∙ early) groups

      -- and another one does
      pub one_added : begins_before number (slice_get alike 0) ≡ false → (groups next : List Group) (count : ℕ)
          → count ≡ length alike → next ≡ groups ++ record { first = pair; count = count } ∷ []
          → next ≡ groups ++ first_group s number (Some pair)
      one_added first groups next count is_count pushed =
          pushed
          ∙ ap (λ k. groups ++ record { first = pair; count = k } ∷ []) (is_count ∙ count_alike alike is)
          ∙ ap (λ (b : Bool). groups ++ (if b then [] else group_of s pair ∷ [])) (sym (known_is ∙ first))
