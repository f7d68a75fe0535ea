-- Which marks of a table a part meets: by a part of the table, after a join of two tables, and of elements in a row.
use Rattle.mr_layout.proofs.Common.{◌≡◌, ℕ, suc, ◌+◌, ◌-◌, ◌*◌, ◌%◌, ◌^◌, ◌<◌, ◌≤◌, ◌⊎◌, inl, inr, Bool, true, false, List, ◌++◌, refl, sym, ap, ◌∙◌, length, get_or, take, drop, max, arith, nat_lt, nat_le, ◌&&◌, ◌||◌, slice_index, Some, None, if◌then◌else◌, mod-eq_of_lt, add-mul-mod_self_right, and_parts, and_from, cases_lt, both_ways, nat_tests, length-take, length-drop, get_or-take, get_or-drop, get_or_past, take_all, drop_all, Use, is_in, is_in_part, every, is_mark, is_marked, is_run_marked, is_some_below, le_from, lt_from, lt_test, le_test}
use Rattle.std.proofs.lemmas.List.{append-nil}
use Rattle.mr_layout.proofs.Below.{some_at, none_below, same_some, same_tests, some_either}

pub mark_take : (m k : ℕ) (table : List ℕ) → k < m → is_mark (take m table) k ≡ is_mark table k
mark_take m k table h = ap (nat_lt 0) (get_or-take m table k 0 h)

mark_drop : (s k : ℕ) (table : List ℕ) → is_mark (drop s table) k ≡ is_mark table (s + k)
mark_drop s k table = ap (nat_lt 0) (get_or-drop s table k 0)

-- a byte with a mark lies inside the table
pub mark_within : (table : List ℕ) (k : ℕ) → is_mark table k ≡ true → k < length table
mark_within table k e = by (cases_lt k (length table))
  where
    by : (k < length table) ⊎ (length table ≤ k) → k < length table
    by (inl h) = h
    by (inr h) = let none : nat_lt 0 (get_or table k 0) ≡ false = ap (nat_lt 0) (get_or_past table k 0 h) in absurd (both_ways (nat_lt 0 (get_or table k 0)) none e)

-- parts with the same used bytes in the table
pub marked_alike : (p q : Use) (table : List ℕ) → ((k : ℕ) → k < length table → p k ≡ q k) → is_marked p table ≡ is_marked q table
unfolding is_marked
marked_alike p q table same = same_tests _ _ (length table) (λ k l. ap (λ b. b && is_mark table k) (same k l))

pub marked_never : (table : List ℕ) → is_marked (λ at. false) table ≡ false
unfolding is_marked
marked_never table = none_below (λ at. false && is_mark table at) (length table) (λ k l. refl)

share : (a b c : Bool) → ((a || b) && c) ≡ ((a && c) || (b && c))
share true b true = refl
share true true false = refl
share true false false = refl
share false b c = refl

-- the bytes of one part or of another
pub marked_either : (p q : Use) (table : List ℕ) → is_marked (λ at. p at || q at) table ≡ (is_marked p table || is_marked q table)
unfolding is_marked
marked_either p q table =
    same_tests _ _ (length table) (λ k l. share (p k) (q k) (is_mark table k))
    ∙ some_either (λ at. p at && is_mark table at) (λ at. q at && is_mark table at) (length table)

-- a part of a part
pub marked_behind : (p : Use) (s : ℕ) (table : List ℕ) → is_marked (is_in_part s p) table ≡ is_marked p (drop s table)
unfolding is_marked
marked_behind p s table =
    same_some (λ at. is_in_part s p at && is_mark table at) (λ at. p at && is_mark (drop s table) at) (length table) (length (drop s table))
    (λ k l e.
    let a = and_parts (is_in_part s p k) (is_mark table k) e in
    let b = and_parts (nat_le s k) (p (k - s)) a.0 in
    let h : s ≤ k = le_from s k b.0 in
    let whole : s + (k - s) ≡ k = omega arith in
    let low : k - s < length (drop s table) = omega (arith, length-drop s table) in
    some_at (λ at. p at && is_mark (drop s table) at) (length (drop s table)) (k - s) low
    (and_from (p (k - s)) (is_mark (drop s table) (k - s)) b.1 (mark_drop s (k - s) table ∙ ap (is_mark table) whole ∙ a.1)))
    (λ k l e.
    let a = and_parts (p k) (is_mark (drop s table) k) e in
    let back : (s + k) - s ≡ k = omega arith in
    let low : s + k < length table = omega (arith, length-drop s table) in
    let from : s ≤ s + k = omega arith in
    some_at (λ at. is_in_part s p at && is_mark table at) (length table) (s + k) low
    (and_from (is_in_part s p (s + k)) (is_mark table (s + k))
    (and_from (nat_le s (s + k)) (p ((s + k) - s)) (le_test s (s + k) from) (ap p back ∙ a.0))
    (sym (mark_drop s k table) ∙ a.1)))

-- the first bytes of a part
pub marked_first : (p : Use) (m : ℕ) (table : List ℕ) → is_marked (λ at. nat_lt at m && p at) table ≡ is_marked p (take m table)
unfolding is_marked
marked_first p m table =
    same_some (λ at. (nat_lt at m && p at) && is_mark table at) (λ at. p at && is_mark (take m table) at) (length table) (length (take m table))
    (λ k l e.
    let a = and_parts (nat_lt k m && p k) (is_mark table k) e in
    let b = and_parts (nat_lt k m) (p k) a.0 in
    let h : k < m = lt_from k m b.0 in
    let low : k < length (take m table) = omega (arith, length-take m table) in
    some_at (λ at. p at && is_mark (take m table) at) (length (take m table)) k low
    (and_from (p k) (is_mark (take m table) k) b.1 (mark_take m k table h ∙ a.1)))
    (λ k l e.
    let a = and_parts (p k) (is_mark (take m table) k) e in
    let h : k < m = omega (arith, length-take m table) in
    let low : k < length table = omega (arith, length-take m table) in
    some_at (λ at. (nat_lt at m && p at) && is_mark table at) (length table) k low
    (and_from (nat_lt k m && p k) (is_mark table k) (and_from (nat_lt k m) (p k) (lt_test k m h) a.0) (sym (mark_take m k table h) ∙ a.1)))

pub or_false : (b : Bool) → (b || false) ≡ b
or_false true = refl
or_false false = refl

and_true : (b : Bool) → (b && true) ≡ b
and_true true = refl
and_true false = refl

-- a part that is used alike from an offset on
cut : (p : Use) (s : ℕ) → ((k : ℕ) → p (s + k) ≡ p k) → (at : ℕ) → p at ≡ ((nat_lt at s && p at) || is_in_part s p at)
cut p s alike at = by (cases_lt at s)
  where
    by : (at < s) ⊎ (s ≤ at) → p at ≡ ((nat_lt at s && p at) || (nat_le s at && p (at - s)))
    by (inl h) =
        let yes : nat_lt at s ≡ true = lt_test at s h in
        let low : nat_le s at ≡ false = grind (arith, nat_tests) in
        sym ((λ i. (yes i && p at) || (low i && p (at - s))) ∙ or_false (p at))
    by (inr h) =
        let low : nat_lt at s ≡ false = grind (arith, nat_tests) in
        let yes : nat_le s at ≡ true = le_test s at h in
        let whole : s + (at - s) ≡ at = omega arith in
        sym ((λ i. (low i && p at) || (yes i && p (at - s))) ∙ sym (alike (at - s)) ∙ ap p whole)

-- so its marks are those of the first bytes and those of the others
pub marked_split : (p : Use) (s : ℕ) (table : List ℕ) → ((k : ℕ) → p (s + k) ≡ p k) → is_marked p table ≡ (is_marked p (take s table) || is_marked p (drop s table))
marked_split p s table alike =
    marked_alike p (λ at. (nat_lt at s && p at) || is_in_part s p at) table (λ k l. cut p s alike k)
    ∙ marked_either (λ at. nat_lt at s && p at) (is_in_part s p) table
    ∙ (λ i. marked_first p s table i || marked_behind p s table i)

-- an offset inside an element is the same so many elements later
later : (part : Use) (len n s : ℕ) → s ≡ n * len → (k : ℕ) → part ((s + k) % len) ≡ part (k % len)
later part len n s e k =
    let turned : s + k ≡ k + n * len = omega (arith, e) in
    ap (λ m. part (m % len)) turned ∙ ap part (add-mul-mod_self_right k n len)

-- a test over more bytes than a table has
longer : (p : Use) (table : List ℕ) (m : ℕ) → length table ≤ m → is_some_below (λ at. p at && is_mark table at) m ≡ is_marked p table
unfolding is_marked
longer p table m h =
    same_some (λ at. p at && is_mark table at) (λ at. p at && is_mark table at) m (length table)
    (λ k l e.
    let a = and_parts (p k) (is_mark table k) e in
    some_at (λ at. p at && is_mark table at) (length table) k (mark_within table k a.1) e)
    (λ k l e.
    let low : k < m = omega arith in
    some_at (λ at. p at && is_mark table at) m k low e)

pub both_marks : (a b : ℕ) → nat_lt 0 (max a b) ≡ (nat_lt 0 a || nat_lt 0 b)
both_marks a b = by (nat_lt 0 a) refl
  where
    by : (t : Bool) → nat_lt 0 a ≡ t → nat_lt 0 (max a b) ≡ (nat_lt 0 a || nat_lt 0 b)
    by true e =
        let h : 0 < a = lt_from 0 a e in
        let some : 0 < max a b = omega arith in
        lt_test 0 (max a b) some ∙ sym (ap (λ t. t || nat_lt 0 b) e)
    by false e =
        let h : a ≤ 0 = grind (arith, nat_tests) in
        let same : max a b ≡ b = omega arith in
        ap (nat_lt 0) same ∙ sym (ap (λ t. t || nat_lt 0 b) e)

shared : (a b c : Bool) → (a && (b || c)) ≡ ((a && b) || (a && c))
shared true b c = refl
shared false b c = refl

-- the marks of two tables, joined
pub marked_joined : (p : Use) (old other new : List ℕ) → length new ≡ length old → length other ≤ length old
    → ((k : ℕ) → slice_index new k ≡ max (slice_index old k) (slice_index other k)) → is_marked p new ≡ (is_marked p old || is_marked p other)
unfolding is_marked
marked_joined p old other new long short marks =
    ap (is_some_below (λ at. p at && is_mark new at)) long
    ∙ same_tests (λ at. p at && is_mark new at) (λ at. (p at && is_mark old at) || (p at && is_mark other at)) (length old) (λ k l. ap (λ b. p k && b) (ap (nat_lt 0) (marks k) ∙ both_marks (slice_index old k) (slice_index other k)) ∙ shared (p k) (is_mark old k) (is_mark other k))
    ∙ some_either (λ at. p at && is_mark old at) (λ at. p at && is_mark other at) (length old)
    ∙ ap (λ b. is_some_below (λ at. p at && is_mark old at) (length old) || b) (longer p other (length old) short)

-- a table that is written back whole
pub written_back : (n : ℕ) (new old : List ℕ) → length new ≡ length old → n ≡ length old → take n (new ++ drop (length new) old) ≡ new
written_back n new old long fits =
    let none : length old ≤ length new = omega (arith, long) in
    let all : length new ≤ n = omega (arith, long, fits) in
    ap (λ rest. take n (new ++ rest)) (drop_all (length new) old none) ∙ ap (take n) (append-nil new) ∙ take_all n new all

-- a step of a fold: the marks so far, and those of what is left
pub step_over : (part : Use) (len n s : ℕ) (row all rest new : List ℕ) → s ≡ n * len → length new ≡ length all → length (take s rest) ≤ length all
    → ((k : ℕ) → slice_index new k ≡ max (slice_index all k) (slice_index (take s rest) k))
    → is_marked (λ at. part (at % len)) row ≡ (is_marked (λ at. part (at % len)) all || is_marked (λ at. part (at % len)) rest)
    → is_marked (λ at. part (at % len)) row ≡ (is_marked (λ at. part (at % len)) new || is_marked (λ at. part (at % len)) (drop s rest))
step_over part len n s row all rest new e long short marks so_far =
    let p : Use = λ at. part (at % len) in
    so_far
    ∙ ap (λ b. is_marked p all || b) (marked_split p s rest (later part len n s e))
    ∙ behind_two (is_marked p all) (is_marked p (take s rest)) (is_marked p (drop s rest))
    ∙ sym (ap (λ b. b || is_marked p (drop s rest)) (marked_joined p all (take s rest) new long short marks))
  where
    behind_two : (a b c : Bool) → (a || (b || c)) ≡ ((a || b) || c)
    behind_two true b c = refl
    behind_two false b c = refl

-- a fold begins with the first step
pub first_step : (part : Use) (len n s : ℕ) (row all rest : List ℕ) → s ≡ n * len → all ≡ take s row → rest ≡ drop s row
    → is_marked (λ at. part (at % len)) row ≡ (is_marked (λ at. part (at % len)) all || is_marked (λ at. part (at % len)) rest)
first_step part len n s row all rest e start behind =
    let p : Use = λ at. part (at % len) in
    marked_split p s row (later part len n s e) ∙ sym (λ i. is_marked p (start i) || is_marked p (behind i))

no_bytes : (rest : List ℕ) → length rest ≡ 0 → (p : Use) → is_marked p rest ≡ false
unfolding is_marked
no_bytes rest e p = ap (is_some_below (λ at. p at && is_mark rest at)) e

-- it ends where nothing is left
pub last_step : (part : Use) (len : ℕ) (row all rest : List ℕ) → length rest ≡ 0
    → is_marked (λ at. part (at % len)) row ≡ (is_marked (λ at. part (at % len)) all || is_marked (λ at. part (at % len)) rest)
    → is_marked (λ at. part (at % len)) row ≡ is_marked (λ at. part (at % len)) all
last_step part len row all rest none so_far =
    let p : Use = λ at. part (at % len) in
    so_far ∙ ap (λ b. is_marked p all || b) (no_bytes rest none p) ∙ or_false (is_marked p all)

-- of a table no longer than an element, the offsets are those inside the element
pub within_one : (part : Use) (len : ℕ) (table : List ℕ) → length table ≤ len → is_marked (λ at. part (at % len)) table ≡ is_marked part table
within_one part len table h = marked_alike (λ at. part (at % len)) part table (λ k l. let low : k < len = omega arith in ap part (mod-eq_of_lt low))

-- the first bytes of a part, all of them used
pub marked_lead : (p : Use) (len : ℕ) (table : List ℕ) → ((at : ℕ) → p at ≡ nat_lt at len) → is_marked p table ≡ is_run_marked 0 len table
marked_lead p len table same =
    marked_alike p (λ at. nat_lt at len && every at) table (λ k l. same k ∙ sym (and_true (nat_lt k len))) ∙ marked_first every len table

run_at : (start len at : ℕ) → is_in start len at ≡ (nat_le start at && nat_lt (at - start) len)
run_at start len at = grind (arith, nat_tests)

-- a range of a part
pub marked_run : (start len : ℕ) (table : List ℕ) → is_marked (is_in start len) table ≡ is_run_marked start len table
marked_run start len table =
    marked_alike (is_in start len) (is_in_part start (λ k. nat_lt k len)) table (λ k l. run_at start len k)
    ∙ marked_behind (λ k. nat_lt k len) start table
    ∙ marked_lead (λ k. nat_lt k len) len (drop start table) (λ at. refl)

-- a mark more in a walk over a table
pub one_mark : (table : List ℕ) (i most : ℕ) → nat_lt 0 most ≡ is_some_below (λ at. every at && is_mark table at) i
    → nat_lt 0 (max most (slice_index table i)) ≡ is_some_below (λ at. every at && is_mark table at) (i + 1)
one_mark table i most so_far =
    let next : suc i ≡ i + 1 = omega arith in
    both_marks most (slice_index table i) ∙ ap (λ b. b || is_mark table i) so_far ∙ ap (is_some_below (λ at. every at && is_mark table at)) next

pub all_marks : (table : List ℕ) (i most : ℕ) → length table ≤ i → nat_lt 0 most ≡ is_some_below (λ at. every at && is_mark table at) i
    → nat_lt 0 most ≡ is_marked every table
all_marks table i most past so_far = so_far ∙ longer every table i past

-- where a row has no more bytes than an element
pub one_elem : (part : Use) (len count : ℕ) (table elems : List ℕ) → elems ≡ take (count * len) table → length elems ≤ len
    → is_marked part elems ≡ is_marked (λ at. part (at % len)) (take (count * len) table)
one_elem part len count table elems row short = sym (within_one part len elems short) ∙ ap (is_marked (λ at. part (at % len))) row

-- where it is folded
pub folded_elem : (part : Use) (len count : ℕ) (table elems all one : List ℕ) → elems ≡ take (count * len) table → one ≡ all
    → is_marked (λ at. part (at % len)) elems ≡ is_marked part all → is_marked part one ≡ is_marked (λ at. part (at % len)) (take (count * len) table)
folded_elem part len count table elems all one row same fold = ap (is_marked part) same ∙ sym fold ∙ ap (is_marked (λ at. part (at % len))) row

-- what a size below 2^63 is
pub known_size : (n len : ℕ) → Some len ≡ (if nat_lt n (2 ^ 63) then Some n else None) → len ≡ n
known_size n len e = by (nat_lt n (2 ^ 63)) e
  where
    by : (b : Bool) → Some len ≡ (if b then Some n else None) → len ≡ n
    by true h = cc
    by false h = cc
