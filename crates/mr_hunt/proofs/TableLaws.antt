-- The table of numbers, one number after the other; and what it says.
use Rattle.mr_hunt.proofs.Common.{◌≡◌, ℕ, zero, suc, ◌+◌, ◌-◌, ◌<◌, ◌≤◌, ◌^◌, ◌⊎◌, inl, inr, Bool, true, false, cond, arith, List, [], ◌∷◌, ◌++◌, get_or, length, map, take, refl, sym, ap, ap₂, ◌∙◌, ◌||◌, ◌&&◌, not, All, flat_map, list_any, range_with_len, End, Row, same_end, IsTable, counted, is_listed, joined, new_row, numbers, once, table_of}
use Rattle.std.proofs.Common.{append-nil}
use Rattle.std.proofs.lemmas.Bool.{cases_lt}
use Rattle.std.proofs.lemmas.List.{map-append, take_more}
use Rattle.std.proofs.lemmas.List.Concat.{flat_map-append}
use Rattle.std.proofs.lemmas.List.Elements.{All-map, filter-append, filter_agree}
use Rattle.std.proofs.lemmas.List.Folds.{list_any-append}
use Rattle.std.proofs.lemmas.List.FromFn.{length-range_with_len}
use Rattle.std.proofs.lemmas.List.Sums.{count_by-le-length}
use Rattle.std.specs.Prelude.{count_by, if◌then◌else◌}
use Rattle.std.specs.List.{filter, fold}
use Rattle.mr_listing.proofs.PartnerLaws.{filter_twice}
use Rattle.mr_hunt.specs.Table.{IsRow, first_of, has_end, is_other, row_of}
use Rattle.mr_hunt.proofs.EndLaws.{end_agrees, end_itself}

-- ---- each kind once

-- whether none of some ends is of the kind of this one
abbrev is_absent : List End → End → Bool
is_absent xs z = not (list_any (same_end z) xs)

all_kept : (xs : List End) → filter (λ (x : End). true) xs ≡ xs
all_kept [] = refl
all_kept (x ∷ xs) = ap (λ (ys : List End). x ∷ ys) (all_kept xs)

neither : (a b : Bool) → (not b && not a) ≡ not (a || b)
neither true true = refl
neither true false = refl
neither false true = refl
neither false false = refl

once_behind : (xs ys : List End) → once (xs ++ ys) ≡ once xs ++ filter (is_absent xs) (once ys)
once_behind [] ys = sym (all_kept (once ys))
once_behind (e ∷ xs) ys =
    let later = filter (is_absent xs) (once ys) in
    ap (λ (zs : List End). e ∷ filter (is_other e) zs) (once_behind xs ys)
    ∙ ap (λ (zs : List End). e ∷ zs)
    (filter-append (is_other e) (once xs) later
    ∙ ap (λ (zs : List End). filter (is_other e) (once xs) ++ zs)
    (filter_twice (is_absent xs) (is_other e) (once ys)
    ∙ filter_agree (λ (z : End). is_absent xs z && is_other e z) (is_absent (e ∷ xs))
    (λ z. neither (same_end z e) (list_any (same_end z) xs)) (once ys)))

-- of the kind of one and not of that of another is not of the kind of both
unlike : (y z e : End) → same_end y e ≡ false → same_end z e ≡ true → same_end y z ≡ false
unlike y z e h is = go (same_end y z) refl
  where
    go : (b : Bool) → same_end y z ≡ b → b ≡ false
    go false same = refl
    go true same = absurd (let agrees = end_agrees y z same e in cc)

any_others : (y e : End) → same_end y e ≡ false → (zs : List End)
    → list_any (same_end y) (filter (is_other e) zs) ≡ list_any (same_end y) zs
any_others y e h [] = refl
any_others y e h (z ∷ zs) = by_test (same_end z e) refl (any_others y e h zs)
  where
    by_test : (b : Bool) → same_end z e ≡ b
        → list_any (same_end y) (filter (is_other e) zs) ≡ list_any (same_end y) zs
        → list_any (same_end y) (cond (not b) (z ∷ filter (is_other e) zs) (filter (is_other e) zs))
        ≡ (same_end y z || list_any (same_end y) zs)
    by_test true is later = later ∙ sym (ap (λ b. b || list_any (same_end y) zs) (unlike y z e h is))
    by_test false is later = ap (λ b. same_end y z || b) later

-- of the kind of one of some ends is of the kind of one of those that are kept
pub any_once : (y : End) (xs : List End) → list_any (same_end y) (once xs) ≡ list_any (same_end y) xs
any_once y [] = refl
any_once y (e ∷ xs) = by_test (same_end y e) refl (any_once y xs)
  where
    by_test : (b : Bool) → same_end y e ≡ b → list_any (same_end y) (once xs) ≡ list_any (same_end y) xs
        → (b || list_any (same_end y) (filter (is_other e) (once xs))) ≡ (b || list_any (same_end y) xs)
    by_test true is later = refl
    by_test false is later = any_others y e is (once xs) ∙ later

once_next : (xs : List End) (y : End)
    → once (xs ++ y ∷ []) ≡ once xs ++ (if list_any (same_end y) (once xs) then [] else y ∷ [])
once_next xs y =
    once_behind xs (y ∷ [])
    ∙ ap (λ (zs : List End). once xs ++ zs)
    (turned (list_any (same_end y) xs) ∙ ap (λ b. cond b [] (y ∷ [])) (sym (any_once y xs)))
  where
    turned : (b : Bool) → cond (not b) (y ∷ []) [] ≡ cond b [] (y ∷ [])
    turned true = refl
    turned false = refl

-- one end more, as at a step of a loop
pub once_more : (xs found : List End) (i : ℕ) (d : End) → i < length xs → found ≡ once (take i xs)
    → found ++ (if list_any (same_end (get_or xs i d)) found then [] else get_or xs i d ∷ []) ≡ once (take (i + 1) xs)
once_more xs found i d inside here =
    let y = get_or xs i d in
    ap (λ (zs : List End). zs ++ (if list_any (same_end y) zs then [] else y ∷ [])) here
    ∙ sym (once_next (take i xs) y) ∙ ap once (sym (take_more xs i d inside))

-- ---- ends that pass a test

abbrev Each : (End → Bool) → List End → Type 0
Each test [] = Unit {0}
Each test (e ∷ es) = (test e ≡ true) × Each test es

each_weaker : (p q : End → Bool) → ((e : End) → p e ≡ true → q e ≡ true) → (es : List End) → Each p es → Each q es
each_weaker p q h [] each = tt
each_weaker p q h (e ∷ es) each = (h e each.0, each_weaker p q h es each.1)

each_filter : (test p : End → Bool) (es : List End) → Each test es → Each test (filter p es)
each_filter test p [] each = tt
each_filter test p (e ∷ es) each = by_test (p e) (each_filter test p es each.1)
  where
    by_test : (b : Bool) → Each test (filter p es) → Each test (cond b (e ∷ filter p es) (filter p es))
    by_test true later = (each.0, later)
    by_test false later = later

or_later : (a b : Bool) → b ≡ true → (a || b) ≡ true
or_later true b e = refl
or_later false b e = e

-- what is kept is of the kind of one
each_in : (xs : List End) → Each (λ (e : End). list_any (same_end e) xs) (once xs)
each_in [] = tt
each_in (x ∷ xs) = (
  ap (λ b. b || list_any (same_end x) xs) (end_itself x),
  each_weaker (λ (e : End). list_any (same_end e) xs) (λ (e : End). list_any (same_end e) (x ∷ xs))
      (λ e h. or_later (same_end e x) (list_any (same_end e) xs) h) (filter (is_other x) (once xs))
      (each_filter (λ (e : End). list_any (same_end e) xs) (is_other x) (once xs) (each_in xs)),
)

each_at : (test : End → Bool) (es : List End) → Each test es
    → (k : ℕ) (d : End) → k < length es → test (get_or es k d) ≡ true
each_at test [] each k d l = absurd (omega arith)
each_at test (e ∷ es) each zero d l = each.0
each_at test (e ∷ es) each (suc k) d l = each_at test es each.1 k d (omega arith)

-- ---- counts and first ones

any_in_all : (ends : ℕ → List End) (e : End) (ns : List ℕ)
    → list_any (same_end e) (flat_map ends ns) ≡ list_any (has_end ends e) ns
any_in_all ends e [] = refl
any_in_all ends e (n ∷ ns) =
    list_any-append (same_end e) (ends n) (flat_map ends ns)
    ∙ ap (λ b. has_end ends e n || b) (any_in_all ends e ns)

-- a count, as it goes on
abbrev tally : (ℕ → Bool) → ℕ → ℕ → ℕ
tally test count n = count + cond (test n) 1 0

fold_last : (step : ℕ → ℕ → ℕ) (a : ℕ) (ns : List ℕ) (n : ℕ) → fold step a (ns ++ n ∷ []) ≡ step (fold step a ns) n
fold_last step a [] n = refl
fold_last step a (m ∷ ms) n = fold_last step (step a m) ms n

count_more : (test : ℕ → Bool) (ns : List ℕ) (n : ℕ)
    → count_by test (ns ++ n ∷ []) ≡ count_by test ns + cond (test n) 1 0
count_more test ns n = fold_last (tally test) 0 ns n

no_more : (test : ℕ → Bool) (count : ℕ) (ns : List ℕ) → list_any test ns ≡ false → fold (tally test) count ns ≡ count
no_more test count [] h = refl
no_more test count (m ∷ ms) h = by_test (test m) h (λ k. no_more test k ms)
  where
    by_test : (b : Bool) → (b || list_any test ms) ≡ false
        → ((k : ℕ) → list_any test ms ≡ false → fold (tally test) k ms ≡ k)
        → fold (tally test) (count + cond b 1 0) ms ≡ count
    by_test true e later = absurd (cc)
    by_test false e later = let same : count + 0 ≡ count = omega arith in later (count + 0) e ∙ same

none_counted : (test : ℕ → Bool) (ns : List ℕ) → list_any test ns ≡ false → count_by test ns ≡ 0
none_counted test ns h = no_more test 0 ns h

first_more : (test : ℕ → Bool) (ns : List ℕ) (n : ℕ)
    → first_of test (ns ++ n ∷ []) ≡ cond (list_any test ns) (first_of test ns) (cond (test n) n 0)
first_more test [] n = refl
first_more test (m ∷ ms) n = by_test (test m) (first_more test ms n)
  where
    by_test : (b : Bool)
        → first_of test (ms ++ n ∷ []) ≡ cond (list_any test ms) (first_of test ms) (cond (test n) n 0)
        → cond b m (first_of test (ms ++ n ∷ []))
        ≡ cond (b || list_any test ms) (cond b m (first_of test ms)) (cond (test n) n 0)
    by_test true later = refl
    by_test false later = later

-- ---- one number more

module _ (ends : ℕ → List End) (ns : List ℕ) (n : ℕ) where
  row_counted : (e : End) → list_any (has_end ends e) ns ≡ true
      → row_of ends (ns ++ n ∷ []) e ≡ counted (ends n) (row_of ends ns e)
  row_counted e some =
      let test = has_end ends e in
      let first : first_of test (ns ++ n ∷ []) ≡ first_of test ns =
      first_more test ns n ∙ ap (λ b. cond b (first_of test ns) (cond (test n) n 0)) some in
      let count = count_more test ns n in
      let same : ◌≡◌ {A = Row} (row_of ends (ns ++ n ∷ []) e)
      (record { end = e; count = count_by test ns + cond (test n) 1 0; first = first_of test ns }) =
      (λ i. record { end = e; count = count i; first = first i }) in
      same ∙ by_test (test n)
    where
      by_test : (b : Bool) → ◌≡◌ {A = Row}
          (record {
            end = e;
            count = count_by (has_end ends e) ns + cond b 1 0;
            first = first_of (has_end ends e) ns;
          })
          (cond b
          (record {
            end = e;
            count = count_by (has_end ends e) ns + 1;
            first = first_of (has_end ends e) ns;
          }) (row_of ends ns e))
      by_test true = refl
      by_test false =
          let none : count_by (has_end ends e) ns + 0 ≡ count_by (has_end ends e) ns = omega arith in
          (λ i. record { end = e; count = none i; first = first_of (has_end ends e) ns })

  row_begun : (e : End) → list_any (has_end ends e) ns ≡ false → has_end ends e n ≡ true
      → ◌≡◌ {A = Row} (row_of ends (ns ++ n ∷ []) e) (record { end = e; count = 1; first = n })
  row_begun e none has =
      let test = has_end ends e in
      let count : count_by test (ns ++ n ∷ []) ≡ 1 =
      count_more test ns n ∙ ap₂ (λ (k : ℕ) (b : Bool). k + cond b 1 0) (none_counted test ns none) has in
      let first : first_of test (ns ++ n ∷ []) ≡ n =
      first_more test ns n
      ∙ ap₂ (λ (a b : Bool). cond a (first_of test ns) (cond b n 0)) none has in
      (λ i. record { end = e; count = count i; first = first i })

  -- the kinds of the numbers before
  abbrev earlier : List End
  earlier = flat_map ends ns

  olds : (es : List End) → Each (λ (e : End). list_any (same_end e) earlier) es
      → map (row_of ends (ns ++ n ∷ [])) es ≡ map (counted (ends n)) (map (row_of ends ns) es)
  olds [] each = refl
  olds (e ∷ es) each =
      ap₂ (λ (r : Row) (rs : List Row). r ∷ rs) (row_counted e (sym (any_in_all ends e ns) ∙ each.0)) (olds es each.1)

  any_row : (e : End) (es : List End) → is_listed (map (row_of ends ns) es) e ≡ list_any (same_end e) es
  any_row e [] = refl
  any_row e (x ∷ es) = ap (λ b. same_end e x || b) (any_row e es)

  listed : (e : End) → is_listed (table_of ends ns) e ≡ list_any (same_end e) earlier
  listed e = any_row e (once earlier) ∙ any_once e earlier

  news : (es : List End) → Each (λ (e : End). list_any (same_end e) (ends n)) es
      → map (row_of ends (ns ++ n ∷ [])) (filter (is_absent earlier) es) ≡ flat_map (new_row (table_of ends ns) n) es
  news [] each = refl
  news (e ∷ es) each =
      by_test (list_any (same_end e) earlier) refl (news es each.1)
      ∙ ap (λ b. cond b [] (record { end = e; count = 1; first = n } ∷ []) ++ flat_map (new_row (table_of ends ns) n) es)
      (sym (listed e))
    where
      by_test : (b : Bool) → list_any (same_end e) earlier ≡ b
          → map (row_of ends (ns ++ n ∷ [])) (filter (is_absent earlier) es) ≡ flat_map (new_row (table_of ends ns) n) es
          → map (row_of ends (ns ++ n ∷ []))
          (cond (not b) (e ∷ filter (is_absent earlier) es) (filter (is_absent earlier) es))
          ≡ cond b [] (record { end = e; count = 1; first = n } ∷ []) ++ flat_map (new_row (table_of ends ns) n) es
      by_test true is later = later
      by_test false is later =
          ap₂ (λ (r : Row) (rs : List Row). r ∷ rs) (row_begun e (sym (any_in_all ends e ns) ∙ is) each.0) later

  pub table_more : joined (table_of ends ns) (ends n) n ≡ table_of ends (ns ++ n ∷ [])
  table_more =
      let row = row_of ends (ns ++ n ∷ []) in
      let later = filter (is_absent earlier) (once (ends n)) in
      sym (
      ap (λ (xs : List End). map row (once xs))
      (flat_map-append ends ns (n ∷ []) ∙ ap (λ (xs : List End). earlier ++ xs) (append-nil (ends n)))
      ∙ ap (map row) (once_behind earlier (ends n)) ∙ map-append row (once earlier) later
      ∙ ap₂ (λ (xs ys : List Row). xs ++ ys) (olds (once earlier) (each_in earlier))
      (news (once (ends n)) (each_in (ends n)))
      )

-- one number more behind the first ones
range_more : (from k : ℕ) → range_with_len from (k + 1) ≡ range_with_len from k ++ (from + k) ∷ []
range_more from zero = let same : from ≡ from + 0 = omega arith in ap (λ n. n ∷ []) same
range_more from (suc k) =
    let one : suc k + 1 ≡ suc (k + 1) = omega arith in
    let there : (from + 1) + k ≡ from + suc k = omega arith in
    ap (λ m. range_with_len from m) one
    ∙ ap (λ (ns : List ℕ). from ∷ ns)
    (range_more (from + 1) k ∙ ap (λ n. range_with_len (from + 1) k ++ n ∷ []) there)

-- the same of the table, as at a step of a loop
pub table_next : (ends : ℕ → List End) (from k number : ℕ) (old new : List Row) → number ≡ from + k
    → old ≡ table_of ends (range_with_len from k) → new ≡ joined old (ends number) number
    → new ≡ table_of ends (range_with_len from (k + 1))
table_next ends from k number old new there here more =
    more ∙ ap₂ (λ (rows : List Row) (n : ℕ). joined rows (ends n) n) here there
    ∙ table_more ends (range_with_len from k) (from + k) ∙ ap (table_of ends) (sym (range_more from k))

-- no count passes how many numbers there are
pub few_counted : (ends : ℕ → List End) (from k : ℕ) → k < 2 ^ 127
    → All (λ (r : Row). r.count < 2 ^ 127) (table_of ends (range_with_len from k))
few_counted ends from k few =
    let ns = range_with_len from k in
    All-map (λ (r : Row). r.count < 2 ^ 127) (row_of ends ns) (once (flat_map ends ns))
    (λ i d inside.
    let le = count_by-le-length (has_end ends (get_or (once (flat_map ends ns)) i d)) ns in
    let all = length-range_with_len from k in
    omega (arith, le, all, few))

-- ---- what it says

-- the first one among those from a number on
abbrev IsLeast : (ℕ → Bool) → ℕ → ℕ → ℕ → Type 0
IsLeast test from end n =
    (from ≤ n) × (n < end) × (test n ≡ true) × ((m : ℕ) → from ≤ m → m < n → test m ≡ false)

at_or_behind : (from n : ℕ) → from ≤ n → (n ≡ from) ⊎ (from + 1 ≤ n)
at_or_behind from n le = elim (cases_lt from n) [ inl less ↦ inr (omega (arith, less)) | inr more ↦ inl (omega (arith, le, more)) ]

first_least : (test : ℕ → Bool) (from k : ℕ) → list_any test (range_with_len from k) ≡ true
    → IsLeast test from (from + k) (first_of test (range_with_len from k))
first_least test from zero h = absurd (cc)
first_least test from (suc k) h = by_test (test from) refl h (first_least test (from + 1) k)
  where
    by_test : (b : Bool) → test from ≡ b → (b || list_any test (range_with_len (from + 1) k)) ≡ true
        → (list_any test (range_with_len (from + 1) k) ≡ true
        → IsLeast test (from + 1) (from + 1 + k) (first_of test (range_with_len (from + 1) k)))
        → IsLeast test from (from + suc k) (cond b from (first_of test (range_with_len (from + 1) k)))
    by_test true is some later = (omega arith, omega arith, is, λ m le less. absurd (omega (arith, le, less)))
    by_test false is some later =
        let (le, less, has, least) = later some in (
          omega (arith, le),
          omega (arith, less),
          has,
          λ m low high. elim (at_or_behind from m low) [
            | inl here ↦ ap test here ∙ is
            | inr behind ↦ least m behind high
          ],
        )

in_range : (test : ℕ → Bool) (from k n : ℕ) → from ≤ n → n < from + k → test n ≡ true
    → list_any test (range_with_len from k) ≡ true
in_range test from zero n low high has = absurd (omega (arith, low, high))
in_range test from (suc k) n low high has =
    elim (at_or_behind from n low) [
      | inl here ↦ ap (λ b. b || list_any test (range_with_len (from + 1) k)) (ap test (sym here) ∙ has)
      | inr behind ↦ or_later (test from) (list_any test (range_with_len (from + 1) k))
          (in_range test (from + 1) k n behind (omega (arith, high)) has)
    ]

module _ (ends : ℕ → List End) (from to : ℕ) where
  is_row : (e : End) → list_any (same_end e) (flat_map ends (numbers from to)) ≡ true
      → IsRow ends from to (row_of ends (numbers from to) e)
  is_row e some =
      let (low, high, has, least) =
      first_least (has_end ends e) from (to + 1 - from) (sym (any_in_all ends e (numbers from to)) ∙ some) in
      record { count = refl; not_before = low; not_behind = omega (arith, low, high); has = has; least = least }

  pub says : IsTable ends from to (table_of ends (numbers from to))
  says =
      let kinds = once (flat_map ends (numbers from to)) in
      let some = each_at (λ (e : End). list_any (same_end e) (flat_map ends (numbers from to))) kinds
      (each_in (flat_map ends (numbers from to))) in
      record {
        rows = All-map (IsRow ends from to) (row_of ends (numbers from to)) kinds
            (λ i d inside. is_row (get_or kinds i d) (some i d inside));
        each = λ n low high e has.
            listed ends (numbers from to) n e
            ∙ any_in_all ends e (numbers from to)
            ∙ in_range (has_end ends e) from (to + 1 - from) n low (omega (arith, low, high)) has;
      }
