-- What the steps of a walk over the parts of a type mark in a table, taken together.
use Rattle.mr_layout.proofs.Common.{◌≡◌, ℕ, zero, suc, ◌+◌, ◌-◌, ◌*◌, ◌/◌, ◌%◌, ◌^◌, ◌<◌, ◌≤◌, ◌⊎◌, inl, inr, Bool, true, false, List, [], ◌∷◌, Option, Some, None, ◌++◌, refl, sym, subst, ap, ◌∙◌, length, get_or, take, drop, max, min, replicate, arith, nat_lt, nat_le, ◌&&◌, ◌||◌, slice_index, if◌then◌else◌, IfSome, mod-eq_of_lt, add-mul-mod_self_right, mod-mod_of_dvd, mod-mul-add, mod_below, and_parts, and_from, and_right, or_left, or_right, cases_lt, nat_tests, length-take, length-append, length-replicate, get_or_past, get_or-replicate, drop_more, drop_all, Tag, Ty, Variant, int_size, le_test, lt_test, not_lt_test, le_from, Rule, is_some_tag_used, is_variant_tag_used, is_some_used, size_of, Use, is_in, is_in_part, is_in_tag, is_used, is_used_field, is_used_in, is_used_variant, is_mark, Marks, is_first, is_used_row, is_row_mark, are_tags_inside, is_some_mark, is_some_tag_mark, or_else, broken_rule, first_broken_field, first_broken_variant}
use Rattle.std.proofs.Math.Nat.{dvd_of_mod-eq-zero}
use Rattle.std.proofs.lemmas.Nat.{div-add-mod', mul-le}
use Rattle.std.proofs.lemmas.List.{get_or_append_left, get_or-append_right}
use Rattle.mr_layout.specs.Tables.{either}
use Rattle.mr_layout.proofs.FoldLaws.{mark_take, both_marks, or_false}
use Rattle.mr_layout.proofs.MetLaws.{part_in, run_in}
use Rattle.mr_layout.proofs.UsedLaws.{used_variant_is}

-- a byte before a part isn't in it
pub part_past : (start : ℕ) (p : Use) (k : ℕ) → k < start → is_in_part start p k ≡ false
part_past start p k h = ap (λ b. b && p (k - start)) low
  where
    low : nat_le start k ≡ false
    low = grind (arith, nat_tests)

-- any other is in it where it is used
pub part_at : (start : ℕ) (p : Use) (k : ℕ) → start ≤ k → is_in_part start p k ≡ p (k - start)
part_at start p k h = ap (λ b. b && p (k - start)) (le_test start k h)

-- ---- marks

-- parts that have the same bytes of the table
pub marks_by : (p q : Use) (s r : ℕ) (old new : List ℕ) → ((k : ℕ) → k < length old → is_in_part s p k ≡ is_in_part r q k) → Marks p s old new → Marks q r old new
marks_by p q s r old new same m = record {
  long = m.long;
  marks = λ k l. m.marks k l ∙ ap (λ b. is_mark old k || b) (same k l);
}

-- parts with the same used bytes
pub marks_alike : (p q : Use) (s : ℕ) (old new : List ℕ) → ((at : ℕ) → p at ≡ q at) → Marks p s old new → Marks q s old new
marks_alike p q s old new same = marks_by p q s s old new (λ k l. ap (λ b. nat_le s k && b) (same (k - s)))

-- parts with the same used bytes among those that the table has from their start on
pub marks_near : (p q : Use) (s : ℕ) (old new : List ℕ) → ((at : ℕ) → s + at < length old → p at ≡ q at) → Marks p s old new → Marks q s old new
marks_near p q s old new same = marks_by p q s s old new here
  where
    here : (k : ℕ) → k < length old → is_in_part s p k ≡ is_in_part s q k
    here k l = by (cases_lt k s)
      where
        by : (k < s) ⊎ (s ≤ k) → is_in_part s p k ≡ is_in_part s q k
        by (inl h) = part_past s p k h ∙ sym (part_past s q k h)
        by (inr h) = ap (λ b. nat_le s k && b) (same (k - s) (omega arith))

no_part : (b : Bool) → (b && false) ≡ false
no_part true = refl
no_part false = refl

-- of a part that begins behind the table nothing is marked, and so nothing of one without used bytes
pub marks_nowhere : (p q : Use) (s r : ℕ) (old new : List ℕ) → length old ≤ s → ((at : ℕ) → q at ≡ false) → Marks p s old new → Marks q r old new
marks_nowhere p q s r old new past none =
    marks_by p q s r old new
    (λ k l. let low : k < s = omega arith in
    part_past s p k low ∙ sym (ap (λ b. nat_le r k && b) (none (k - r)) ∙ no_part (nat_le r k)))

-- a table that stays as it is, where the part begins behind it
pub marks_nothing : (p : Use) (s : ℕ) (old : List ℕ) → length old ≤ s → Marks p s old old
marks_nothing p s old past = record {
  long = refl;
  marks = λ k l. let low : k < s = omega arith in sym (ap (λ b. is_mark old k || b) (part_past s p k low) ∙ or_false (is_mark old k));
}

three : (a s p q : Bool) → ((a || (s && p)) || (s && q)) ≡ (a || (s && (p || q)))
three true s p q = refl
three false true p q = refl
three false false p q = refl

-- one part after another
pub marks_then : (p q r : Use) (s : ℕ) (old mid new : List ℕ) → ((at : ℕ) → r at ≡ (p at || q at)) → Marks p s old mid → Marks q s mid new → Marks r s old new
marks_then p q r s old mid new split one two = record {
  long = two.long ∙ one.long;
  marks = λ k l.
      two.marks k (low k l)
      ∙ ap (λ b. b || is_in_part s q k) (one.marks k l)
      ∙ three (is_mark old k) (nat_le s k) (p (k - s)) (q (k - s))
      ∙ ap (λ b. is_mark old k || (nat_le s k && b)) (sym (split (k - s)));
}
  where
    low : (k : ℕ) → k < length old → k < length mid
    low k l = omega (arith, one.long)

-- a part of a part, where its start is told up to the greatest number
pub marks_moved : (p : Use) (s a m : ℕ) (old new : List ℕ) → m ≡ min (s + a) (2 ^ 64 - 1) → length old ≤ 2 ^ 20 → Marks p m old new → Marks (is_in_part a p) s old new
marks_moved p s a m old new moved small = marks_by p (is_in_part a p) m s old new here
  where
    here : (k : ℕ) → k < length old → is_in_part m p k ≡ is_in_part s (is_in_part a p) k
    here k l = by (cases_lt k (s + a)) ∙ sym (part_in p s a k)
      where
        by : (k < s + a) ⊎ (s + a ≤ k) → is_in_part m p k ≡ is_in_part (s + a) p k
        by (inl h) = let low : k < m = omega arith in part_past m p k low ∙ sym (part_past (s + a) p k h)
        by (inr h) = let same : m ≡ s + a = omega arith in ap (λ n. is_in_part n p k) same

-- ---- a walk over parts

-- what is marked so far, and what is left to be marked
pub record Owes (rest whole : Use) (start : ℕ) (old now : List ℕ) : Type 0 where
  pub long : length now ≡ length old
  pub marks : (k : ℕ) → k < length old → (is_mark now k || is_in_part start rest k) ≡ (is_mark old k || is_in_part start whole k)

pub owes_whole : (whole : Use) (start : ℕ) (old : List ℕ) → Owes whole whole start old old
owes_whole whole start old = record { long = refl; marks = λ k l. refl }

-- a part more is marked
pub owes_next : (one rest next whole : Use) (start : ℕ) (old now new : List ℕ) → ((at : ℕ) → rest at ≡ (one at || next at)) → Owes rest whole start old now → Marks one start now new
    → Owes next whole start old new
owes_next one rest next whole start old now new split so_far m = record {
  long = m.long ∙ so_far.long;
  marks = λ k l.
      ap (λ b. b || is_in_part start next k) (m.marks k (low k l))
      ∙ three (is_mark now k) (nat_le start k) (one (k - start)) (next (k - start))
      ∙ ap (λ b. is_mark now k || (nat_le start k && b)) (sym (split (k - start)))
      ∙ so_far.marks k l;
}
  where
    low : (k : ℕ) → k < length old → k < length now
    low k l = omega (arith, so_far.long)

-- nothing is left
pub owes_none : (rest whole : Use) (start : ℕ) (old now : List ℕ) → ((at : ℕ) → rest at ≡ false) → Owes rest whole start old now → Marks whole start old now
owes_none rest whole start old now none so_far = record {
  long = so_far.long;
  marks = λ k l.
      sym (ap (λ b. is_mark now k || (nat_le start k && b)) (none (k - start)) ∙ ap (λ b. is_mark now k || b) (no_part (nat_le start k)) ∙ or_false (is_mark now k))
      ∙ so_far.marks k l;
}

-- ---- numbers that are put into a table

one_mark : (table : List ℕ) (k : ℕ) → slice_index table k ≡ 1 → is_mark table k ≡ true
one_mark table k e = ap (nat_lt 0) e

-- of the first bytes of a part
pub marks_put : (start len : ℕ) (old new : List ℕ) → length new ≡ length old → ((k : ℕ) → k < start → slice_index new k ≡ slice_index old k)
    → ((k : ℕ) → start ≤ k → k < start + len → k < length old → slice_index new k ≡ 1) → ((k : ℕ) → start + len ≤ k → slice_index new k ≡ slice_index old k)
    → Marks (is_first len) start old new
marks_put start len old new long before inside after = record { long = long; marks = here }
  where
    here : (k : ℕ) → k < length old → is_mark new k ≡ (is_mark old k || is_in_part start (is_first len) k)
    here k l = by (cases_lt k start) (cases_lt k (start + len))
      where
        out : is_in_part start (is_first len) k ≡ false → slice_index new k ≡ slice_index old k → is_mark new k ≡ (is_mark old k || is_in_part start (is_first len) k)
        out e same = ap (nat_lt 0) same ∙ sym (ap (λ b. is_mark old k || b) e ∙ or_false (is_mark old k))

        by : (k < start) ⊎ (start ≤ k) → (k < start + len) ⊎ (start + len ≤ k) → is_mark new k ≡ (is_mark old k || is_in_part start (is_first len) k)
        by (inl h) g = out (part_past start (is_first len) k h) (before k h)
        by (inr h) (inl g) =
            let low : k - start < len = omega arith in
            one_mark new k (inside k h g l) ∙ sym (or_right (is_mark old k) (is_in_part start (is_first len) k) (part_at start (is_first len) k h ∙ lt_test (k - start) len low))
        by (inr h) (inr g) =
            let past : len ≤ k - start = omega arith in
            out (part_at start (is_first len) k h ∙ not_lt_test (k - start) len past) (after k g)

-- of a chunk
pub marks_chunk : (start at len m : ℕ) (old new : List ℕ) → m ≡ min (start + at) (2 ^ 64 - 1) → length old ≤ 2 ^ 20 → Marks (is_first len) m old new → Marks (is_in at len) start old new
marks_chunk start at len m old new moved small m1 =
    marks_alike (is_in_part at (is_first len)) (is_in at len) start old new (run_in at len) (marks_moved (is_first len) start at m old new moved small m1)

-- of tags: a number where a tag lies, and what was there before elsewhere
abbrev pub with_tags : List ℕ → ℕ → List Tag → ℕ → ℕ → ℕ
with_tags table start tags value k = if is_in_part start (is_in_tag tags) k then value else slice_index table k

put_at : (start len value : ℕ) (old new : List ℕ) → length new ≡ length old → ((k : ℕ) → k < start → slice_index new k ≡ slice_index old k)
    → ((k : ℕ) → start ≤ k → k < start + len → k < length old → slice_index new k ≡ value) → ((k : ℕ) → start + len ≤ k → slice_index new k ≡ slice_index old k)
    → (k : ℕ) → k < length old → slice_index new k ≡ (if is_in_part start (is_first len) k then value else slice_index old k)
put_at start len value old new long before inside after k l = by (cases_lt k start) (cases_lt k (start + len))
  where
    out : is_in_part start (is_first len) k ≡ false → slice_index new k ≡ slice_index old k → slice_index new k ≡ (if is_in_part start (is_first len) k then value else slice_index old k)
    out e same = same ∙ sym (ap (λ b. if b then value else slice_index old k) e)

    by : (k < start) ⊎ (start ≤ k) → (k < start + len) ⊎ (start + len ≤ k) → slice_index new k ≡ (if is_in_part start (is_first len) k then value else slice_index old k)
    by (inl h) g = out (part_past start (is_first len) k h) (before k h)
    by (inr h) (inl g) =
        let low : k - start < len = omega arith in
        inside k h g l ∙ sym (ap (λ b. if b then value else slice_index old k) (part_at start (is_first len) k h ∙ lt_test (k - start) len low))
    by (inr h) (inr g) =
        let past : len ≤ k - start = omega arith in
        out (part_at start (is_first len) k h ∙ not_lt_test (k - start) len past) (after k g)

both_parts : (s a b : Bool) (x y : ℕ) → (if s && b then x else (if s && a then x else y)) ≡ (if s && (a || b) then x else y)
both_parts true true true x y = refl
both_parts true true false x y = refl
both_parts true false b x y = refl
both_parts false a b x y = refl

-- a tag more has the number
pub tags_next : (start at len m value : ℕ) (one : Tag) (rest tags whole : List Tag) (old now new : List ℕ) → m ≡ min (start + at) (2 ^ 64 - 1) → length old ≤ 2 ^ 20
    → tags ≡ one ∷ rest → at ≡ one.at → len ≡ int_size one.int → length now ≡ length old → length new ≡ length now
    → ((k : ℕ) → k < m → slice_index new k ≡ slice_index now k) → ((k : ℕ) → m ≤ k → k < m + len → k < length now → slice_index new k ≡ value)
    → ((k : ℕ) → m + len ≤ k → slice_index new k ≡ slice_index now k)
    → ((k : ℕ) → k < length old → with_tags now start tags value k ≡ with_tags old start whole value k)
    → (k : ℕ) → k < length old → with_tags new start rest value k ≡ with_tags old start whole value k
tags_next start at len m value one rest tags whole old now new moved small split place size long longer before inside after so_far k l =
    ap (λ n. if is_in_part start (is_in_tag rest) k then value else n) (put_at m len value now new longer before inside after k low ∙ ap (λ b. if b then value else slice_index now k) here)
    ∙ both_parts (nat_le start k) (is_in one.at (int_size one.int) (k - start)) (is_in_tag rest (k - start)) value (slice_index now k)
    ∙ ap (λ list. with_tags now start list value k) (sym split)
    ∙ so_far k l
  where
    low : k < length now
    low = omega (arith, long)

    here : is_in_part m (is_first len) k ≡ is_in_part start (is_in one.at (int_size one.int)) k
    here = by (cases_lt k (start + at)) ∙ sym (part_in (is_first len) start at k) ∙ ap (λ b. nat_le start k && b) (run_in at len (k - start) ∙ (λ i. is_in (place i) (size i) (k - start)))
      where
        by : (k < start + at) ⊎ (start + at ≤ k) → is_in_part m (is_first len) k ≡ is_in_part (start + at) (is_first len) k
        by (inl h) = let down : k < m = omega arith in part_past m (is_first len) k down ∙ sym (part_past (start + at) (is_first len) k h)
        by (inr h) = let same : m ≡ start + at = omega arith in ap (λ n. is_in_part n (is_first len) k) same

-- no tag is left
pub tags_none : (start value : ℕ) (rest whole : List Tag) (old now : List ℕ) → rest ≡ [] → ((k : ℕ) → k < length old → with_tags now start rest value k ≡ with_tags old start whole value k)
    → (k : ℕ) → k < length old → slice_index now k ≡ with_tags old start whole value k
tags_none start value rest whole old now none so_far k l =
    sym (ap (λ list. with_tags now start list value k) none ∙ ap (λ b. if b then value else slice_index now k) (no_part (nat_le start k))) ∙ so_far k l

-- ---- the marks of another table

-- one that begins at an offset
pub marks_max : (at : ℕ) (other old new : List ℕ) → length new ≡ length old → ((k : ℕ) → k < at → slice_index new k ≡ slice_index old k)
    → ((k : ℕ) → at ≤ k → k < at + length other → slice_index new k ≡ max (slice_index old k) (slice_index other (k - at)))
    → ((k : ℕ) → at + length other ≤ k → slice_index new k ≡ slice_index old k) → Marks (is_mark other) at old new
marks_max at other old new long before inside after = record { long = long; marks = here }
  where
    here : (k : ℕ) → k < length old → is_mark new k ≡ (is_mark old k || is_in_part at (is_mark other) k)
    here k l = by (cases_lt k at) (cases_lt k (at + length other))
      where
        out : is_in_part at (is_mark other) k ≡ false → slice_index new k ≡ slice_index old k → is_mark new k ≡ (is_mark old k || is_in_part at (is_mark other) k)
        out e same = ap (nat_lt 0) same ∙ sym (ap (λ b. is_mark old k || b) e ∙ or_false (is_mark old k))

        by : (k < at) ⊎ (at ≤ k) → (k < at + length other) ⊎ (at + length other ≤ k) → is_mark new k ≡ (is_mark old k || is_in_part at (is_mark other) k)
        by (inl h) g = out (part_past at (is_mark other) k h) (before k h)
        by (inr h) (inl g) =
            ap (nat_lt 0) (inside k h g) ∙ both_marks (slice_index old k) (slice_index other (k - at)) ∙ ap (λ b. is_mark old k || b) (sym (part_at at (is_mark other) k h))
        by (inr h) (inr g) =
            let past : length other ≤ k - at = omega arith in
            out (part_at at (is_mark other) k h ∙ ap (nat_lt 0) (get_or_past other (k - at) 0 past)) (after k g)

-- one of which the first bytes are as many as the table has from the offset on
pub marks_over : (start : ℕ) (other part old new : List ℕ) → part ≡ take (length old - start) other → Marks (is_mark part) start old new → Marks (is_mark other) start old new
marks_over start other part old new first =
    marks_near (is_mark part) (is_mark other) start old new
    (λ at l. let low : at < length old - start = omega arith in ap (λ list. is_mark list at) first ∙ mark_take (length old - start) at other low)

-- ---- rows

-- an offset from a whole number of rows on
from_whole : (w done at : ℕ) → done % w ≡ 0 → done ≤ at → at < done + w → at % w ≡ at - done
from_whole w done at whole h g =
    let parts = div-add-mod' done w in
    let split : at ≡ (done / w) * w + (at - done) = omega (arith, parts, whole) in
    let low : at - done < w = omega arith in
    ap (λ n. n % w) split ∙ mod-mul-add (done / w) w (at - done) low

-- once more a row
pub rows_next : (start bytes done : ℕ) (row part old now new : List ℕ) → 0 < length row → done % length row ≡ 0 → part ≡ take (bytes - done) row
    → Marks (λ at. nat_lt at done && is_row_mark row bytes at) start old now → Marks (is_mark part) (start + done) now new
    → Marks (λ at. nat_lt at (done + length row) && is_row_mark row bytes at) start old new
rows_next start bytes done row part old now new some whole first so_far m =
    marks_then (λ at. nat_lt at done && is_row_mark row bytes at) (is_in_part done (is_mark part)) (λ at. nat_lt at (done + length row) && is_row_mark row bytes at) start old now new split so_far
    (marks_by (is_mark part) (is_in_part done (is_mark part)) (start + done) start now new (λ k l. sym (part_in (is_mark part) start done k)) m)
  where
    part_len : length part ≡ min (bytes - done) (length row)
    part_len = ap length first ∙ length-take (bytes - done) row

    split : (at : ℕ) → (nat_lt at (done + length row) && is_row_mark row bytes at) ≡ ((nat_lt at done && is_row_mark row bytes at) || is_in_part done (is_mark part) at)
    split at = by (cases_lt at done) (cases_lt at (done + length row)) (cases_lt at bytes)
      where
        by : (at < done) ⊎ (done ≤ at) → (at < done + length row) ⊎ (done + length row ≤ at) → (at < bytes) ⊎ (bytes ≤ at)
            → (nat_lt at (done + length row) && is_row_mark row bytes at) ≡ ((nat_lt at done && is_row_mark row bytes at) || is_in_part done (is_mark part) at)
        by (inl h) g b =
            let near : at < done + length row = omega arith in
            ap (λ t. t && is_row_mark row bytes at) (lt_test at (done + length row) near)
            ∙ sym ((λ i. (lt_test at done h i && is_row_mark row bytes at) || part_past done (is_mark part) at h i) ∙ or_false (is_row_mark row bytes at))
        by (inr h) (inl g) (inl b) =
            let low : at - done < bytes - done = omega arith in
            (λ i. lt_test at (done + length row) g i && (lt_test at bytes b i && is_mark row (from_whole (length row) done at whole h g i)))
            ∙ sym ((λ i. (not_lt_test at done h i && is_row_mark row bytes at) || part_at done (is_mark part) at h i)
            ∙ ap (λ list. is_mark list (at - done)) first ∙ mark_take (bytes - done) (at - done) row low)
        by (inr h) (inl g) (inr b) =
            let past : length part ≤ at - done = omega (arith, part_len) in
            (λ i. lt_test at (done + length row) g i && (not_lt_test at bytes b i && is_mark row (at % length row)))
            ∙ sym ((λ i. (not_lt_test at done h i && is_row_mark row bytes at) || part_at done (is_mark part) at h i)
            ∙ ap (nat_lt 0) (get_or_past part (at - done) 0 past))
        by (inr h) (inr g) b =
            let past : length part ≤ at - done = omega (arith, part_len) in
            ap (λ t. t && is_row_mark row bytes at) (not_lt_test at (done + length row) g)
            ∙ sym ((λ i. (not_lt_test at done h i && is_row_mark row bytes at) || part_at done (is_mark part) at h i)
            ∙ ap (nat_lt 0) (get_or_past part (at - done) 0 past))

-- it is still a whole number of rows
pub whole_next : (w done : ℕ) → done % w ≡ 0 → (done + w) % w ≡ 0
whole_next w done whole =
    let once : done + w ≡ done + 1 * w = omega arith in
    ap (λ n. n % w) once ∙ add-mul-mod_self_right done 1 w ∙ whole

-- no row yet
pub rows_none : (start bytes : ℕ) (row old : List ℕ) → Marks (λ at. nat_lt at 0 && is_row_mark row bytes at) start old old
rows_none start bytes row old =
    marks_alike (λ at. false) (λ at. nat_lt at 0 && is_row_mark row bytes at) start old old (λ at. sym (ap (λ b. b && is_row_mark row bytes at) (not_lt_test at 0 (omega arith))))
    (record { long = refl; marks = λ k l. sym (ap (λ b. is_mark old k || b) (no_part (nat_le start k)) ∙ or_false (is_mark old k)) })

-- all rows
pub rows_all : (start bytes done : ℕ) (row old new : List ℕ) → bytes ≤ done → Marks (λ at. nat_lt at done && is_row_mark row bytes at) start old new → Marks (is_row_mark row bytes) start old new
rows_all start bytes done row old new past = marks_alike (λ at. nat_lt at done && is_row_mark row bytes at) (is_row_mark row bytes) start old new here
  where
    here : (at : ℕ) → (nat_lt at done && is_row_mark row bytes at) ≡ is_row_mark row bytes at
    here at = by (cases_lt at bytes)
      where
        by : (at < bytes) ⊎ (bytes ≤ at) → (nat_lt at done && is_row_mark row bytes at) ≡ is_row_mark row bytes at
        by (inl h) = let low : at < done = omega arith in ap (λ b. b && is_row_mark row bytes at) (lt_test at done low)
        by (inr h) =
            let none : is_row_mark row bytes at ≡ false = ap (λ b. b && is_mark row (at % length row)) (not_lt_test at bytes h) in
            and_right (nat_lt at done) (is_row_mark row bytes at) none ∙ sym none

-- a row that is put behind rows
pub repeated_next : (row wide new : List ℕ) → length wide % length row ≡ 0 → new ≡ wide ++ row
    → ((k : ℕ) → k < length wide → slice_index wide k ≡ slice_index row (k % length row))
    → (k : ℕ) → k < length new → slice_index new k ≡ slice_index row (k % length row)
repeated_next row wide new whole pushed so_far k l = by (cases_lt k (length wide))
  where
    by : (k < length wide) ⊎ (length wide ≤ k) → slice_index new k ≡ slice_index row (k % length row)
    by (inl h) = ap (λ list. slice_index list k) pushed ∙ get_or_append_left wide row 0 k h ∙ so_far k h
    by (inr h) =
        let low : k < length wide + length row = omega (arith, ap length pushed, length-append wide row) in
        ap (λ list. slice_index list k) pushed ∙ get_or-append_right wide row (length wide) k 0 refl h
        ∙ ap (slice_index row) (sym (from_whole (length row) (length wide) k whole h low))

-- the row itself
pub repeated_once : (row wide : List ℕ) → wide ≡ row → (k : ℕ) → k < length wide → slice_index wide k ≡ slice_index row (k % length row)
repeated_once row wide same k l =
    let low : k < length row = omega (arith, ap length same) in
    ap (λ list. slice_index list k) same ∙ ap (slice_index row) (sym (mod-eq_of_lt low))

-- rows of rows
pub repeated_twice : (row some wide : List ℕ) → 0 < length some → length some % length row ≡ 0 → ((k : ℕ) → k < length some → slice_index some k ≡ slice_index row (k % length row))
    → ((k : ℕ) → k < length wide → slice_index wide k ≡ slice_index some (k % length some)) → (k : ℕ) → k < length wide → slice_index wide k ≡ slice_index row (k % length row)
repeated_twice row some wide many whole one two k l =
    two k l ∙ one (k % length some) (mod_below k (length some) many) ∙ ap (slice_index row) (mod-mod_of_dvd (length row) k (dvd_of_mod-eq-zero (length row) whole))

-- whole rows of whole rows are whole rows
pub whole_twice : (n m w : ℕ) → n % m ≡ 0 → m % w ≡ 0 → n % w ≡ 0
whole_twice n m w outer inner = sym (mod-mod_of_dvd w n (dvd_of_mod-eq-zero w inner)) ∙ ap (λ k. k % w) outer ∙ none w
  where
    none : (w : ℕ) → 0 % w ≡ 0
    none w = omega arith

with_true : (b : Bool) → (b && true) ≡ b
with_true true = refl
with_true false = refl

-- of rows whose bytes are all marked each byte is marked
pub full_row : (row : List ℕ) (bytes : ℕ) → 0 < length row → ((k : ℕ) → k < length row → 0 < slice_index row k) → (at : ℕ) → is_first bytes at ≡ is_row_mark row bytes at
full_row row bytes some full at =
    sym (ap (λ b. nat_lt at bytes && b) (lt_test 0 (slice_index row (at % length row)) (full (at % length row) (mod_below at (length row) some))) ∙ with_true (nat_lt at bytes))

-- the marks of a row, as far as the table goes
pub marks_row : (start count bytes : ℕ) (row old new : List ℕ) → bytes ≡ min (count * length row) (length old - start)
    → Marks (is_row_mark row bytes) start old new → Marks (is_row_mark row (count * length row)) start old new
marks_row start count bytes row old new few = marks_near (is_row_mark row bytes) (is_row_mark row (count * length row)) start old new here
  where
    here : (at : ℕ) → start + at < length old → is_row_mark row bytes at ≡ is_row_mark row (count * length row) at
    here at l = ap (λ b. b && is_mark row (at % length row)) (by (cases_lt at (count * length row)))
      where
        by : (at < count * length row) ⊎ (count * length row ≤ at) → nat_lt at bytes ≡ nat_lt at (count * length row)
        by (inl h) = let low : at < bytes = omega (arith, few) in lt_test at bytes low ∙ sym (lt_test at (count * length row) h)
        by (inr h) = let past : bytes ≤ at = omega (arith, few) in not_lt_test at bytes past ∙ sym (not_lt_test at (count * length row) h)

-- the same of rows that are put together
pub marks_wide : (start bytes : ℕ) (row wide old new : List ℕ) → 0 < length wide → length wide % length row ≡ 0
    → ((k : ℕ) → k < length wide → slice_index wide k ≡ slice_index row (k % length row))
    → Marks (is_row_mark wide bytes) start old new → Marks (is_row_mark row bytes) start old new
marks_wide start bytes row wide old new some whole same = marks_alike (is_row_mark wide bytes) (is_row_mark row bytes) start old new here
  where
    here : (at : ℕ) → is_row_mark wide bytes at ≡ is_row_mark row bytes at
    here at =
        ap (λ b. nat_lt at bytes && b)
        (ap (nat_lt 0) (same (at % length wide) (mod_below at (length wide) some)) ∙ ap (is_mark row) (mod-mod_of_dvd (length row) at (dvd_of_mod-eq-zero (length row) whole)))

-- ---- the element of an array

blank_mark : (len k : ℕ) → k < len → is_mark (replicate len 0) k ≡ false
blank_mark len k l = ap (nat_lt 0) (get_or-replicate len k 0 0 l)

-- what a table of its own says of a part
pub own_marks : (p : Use) (len : ℕ) (own new : List ℕ) → own ≡ replicate len 0 → Marks p 0 own new → (k : ℕ) → k < len → is_mark new k ≡ p k
own_marks p len own new blank m k l =
    let long : length own ≡ len = ap length blank ∙ length-replicate len 0 in
    let low : k < length own = omega (arith, long) in
    let from : 0 ≤ k = omega arith in
    let back : k - 0 ≡ k = omega arith in
    m.marks k low ∙ (λ i. (ap (λ list. is_mark list k) blank ∙ blank_mark len k l) i || (part_at 0 p k from ∙ ap p back) i)

-- elements in a row, by the marks of one
pub marks_elems : (count len start : ℕ) (elem : Ty) (one old new : List ℕ) → len ≡ size_of elem → 0 < len → length one ≡ len
    → ((k : ℕ) → k < len → is_mark one k ≡ is_used elem k)
    → Marks (is_row_mark one (count * length one)) start old new → Marks (is_used_row count elem) start old new
marks_elems count len start elem one old new size some long used = marks_alike (is_row_mark one (count * length one)) (is_used_row count elem) start old new here
  where
    width : length one ≡ size_of elem
    width = long ∙ size

    here : (at : ℕ) → is_row_mark one (count * length one) at ≡ is_used_row count elem at
    here at =
        let low : at % size_of elem < len = omega (arith, mod_below at (size_of elem) (omega (arith, size)), size) in
        (λ i. nat_lt at (count * width i) && is_mark one (at % width i)) ∙ ap (λ b. nat_lt at (count * size_of elem) && b) (used (at % size_of elem) low)

le_times : (c n : ℕ) → 0 < c → n ≤ c * n
le_times c n some =
    let one : 1 ≤ c = omega arith in
    let same : n ≤ n = omega arith in
    omega (arith, mul-le 1 n c n one same)

-- an element that has as many bytes as the table has left, or more
pub marks_long : (count start : ℕ) (elem : Ty) (old new : List ℕ) → 0 < count → length old - start ≤ size_of elem → Marks (is_used elem) start old new → Marks (is_used_row count elem) start old new
marks_long count start elem old new some past = marks_near (is_used elem) (is_used_row count elem) start old new here
  where
    here : (at : ℕ) → start + at < length old → is_used elem at ≡ is_used_row count elem at
    here at l =
        let low : at < size_of elem = omega arith in
        let all : size_of elem ≤ count * size_of elem = le_times count (size_of elem) some in
        let within : at < count * size_of elem = omega arith in
        sym ((λ i. lt_test at (count * size_of elem) within i && is_used elem (mod-eq_of_lt low i)))

-- elements without bytes
pub row_empty : (count : ℕ) (elem : Ty) → count * size_of elem ≡ 0 → (at : ℕ) → is_used_row count elem at ≡ false
row_empty count elem none at =
    let past : count * size_of elem ≤ at = omega (arith, none) in
    ap (λ b. b && is_used elem (at % size_of elem)) (not_lt_test at (count * size_of elem) past)

-- ---- a variant and its tags

-- what a table of its own says of an enum's variants, as far as another table goes
pub marks_own : (p : Use) (size start : ℕ) (own old new : List ℕ) → length old < start + size → ((k : ℕ) → k < size → is_mark own k ≡ p k) → Marks (is_mark own) start old new → Marks p start old new
marks_own p size start own old new short same =
    marks_near (is_mark own) p start old new (λ at l. same at (omega arith))

-- a byte of a tag bore no mark before the type's were set
tag_byte : (start : ℕ) (tags : List Tag) (t : Ty) (old off new : List ℕ) → length off ≡ length old
    → ((k : ℕ) → k < length old → slice_index off k ≡ with_tags old start tags 0 k) → Marks (is_used t) start off new
    → (at : ℕ) → start + at < length old → is_in_tag tags at ≡ true → is_mark new (start + at) ≡ is_used t at
tag_byte start tags t old off new long cleared m at l e =
    let back : (start + at) - start ≡ at = omega arith in
    let from : start ≤ start + at = omega arith in
    let low : start + at < length off = omega (arith, long) in
    let inside : is_in_part start (is_in_tag tags) (start + at) ≡ true = part_at start (is_in_tag tags) (start + at) from ∙ ap (is_in_tag tags) back ∙ e in
    let none : is_mark off (start + at) ≡ false = ap (nat_lt 0) (cleared (start + at) l ∙ ap (λ b. if b then 0 else slice_index old (start + at)) inside) in
    m.marks (start + at) low ∙ (λ i. none i || (part_at start (is_used t) (start + at) from ∙ ap (is_used t) back) i)

-- so a marked byte of a tag is one that the type uses
some_used : (start at n : ℕ) (t : Ty) (table : List ℕ) → ((j : ℕ) → j < n → is_mark table ((start + at) + j) ≡ is_used t (at + j)) → is_some_mark table (start + at) n ≡ is_some_used t at n
some_used start at zero t table same = refl
some_used start at (suc n) t table same = (λ i. some_used start at n t table (λ j l. same j (omega arith)) i || same n (omega arith) i)

tags_used : (start end : ℕ) (tags : List Tag) (t : Ty) (table : List ℕ) → are_tags_inside start end tags ≡ true
    → ((at : ℕ) → start + at < end → is_in_tag tags at ≡ true → is_mark table (start + at) ≡ is_used t at) → is_some_tag_mark table start tags ≡ is_some_tag_used t tags
tags_used start end [] t table inside same = refl
tags_used start end (g ∷ tags) t table inside same =
    let p = and_parts (nat_le ((start + g.at) + int_size g.int) end) (are_tags_inside start end tags) inside in
    let fits : (start + g.at) + int_size g.int ≤ end = le_from ((start + g.at) + int_size g.int) end p.0 in
    (λ i. some_used start g.at (int_size g.int) t table (λ j l. byte j l fits) i
    || tags_used start end tags t table p.1 (λ at l e. same at l (or_right (is_in g.at (int_size g.int) at) (is_in_tag tags at) e)) i)
  where
    byte : (j : ℕ) → j < int_size g.int → (start + g.at) + int_size g.int ≤ end → is_mark table ((start + g.at) + j) ≡ is_used t (g.at + j)
    byte j l fits =
        let whole : (start + g.at) + j ≡ start + (g.at + j) = omega arith in
        let low : start + (g.at + j) < end = omega arith in
        let from : g.at ≤ g.at + j = omega arith in
        let before : g.at + j < g.at + int_size g.int = omega arith in
        ap (is_mark table) whole
        ∙ same (g.at + j) low (or_left (is_in g.at (int_size g.int) (g.at + j)) (is_in_tag tags (g.at + j)) (and_from (nat_le g.at (g.at + j)) (nat_lt (g.at + j) (g.at + int_size g.int)) (le_test g.at (g.at + j) from) (lt_test (g.at + j) (g.at + int_size g.int) before)))

-- whether the type uses a byte of a tag is seen where its marks are set
pub tags_seen : (start : ℕ) (tags : List Tag) (t : Ty) (old off new : List ℕ) → length off ≡ length old → are_tags_inside start (length old) tags ≡ true
    → ((k : ℕ) → k < length old → slice_index off k ≡ with_tags old start tags 0 k) → Marks (is_used t) start off new → is_some_tag_mark new start tags ≡ is_some_tag_used t tags
tags_seen start tags t old off new long inside cleared m =
    tags_used start (length old) tags t new inside (tag_byte start tags t old off new long cleared m)

tag_cases : (s x o u : Bool) → (if s && x then true else ((if s && x then false else o) || (s && u))) ≡ (o || (s && (u || x)))
tag_cases true true true u = refl
tag_cases true true false true = refl
tag_cases true true false false = refl
tag_cases true false o true = refl
tag_cases true false o false = refl
tag_cases false x o u = refl

mark_if : (b : Bool) (x y : ℕ) → nat_lt 0 (if b then x else y) ≡ (if b then nat_lt 0 x else nat_lt 0 y)
mark_if true x y = refl
mark_if false x y = refl

-- the marks of a variant: those of its type, and its tags
pub variant_marks : (start : ℕ) (v : Variant) (old off mid new : List ℕ) → length off ≡ length old → length new ≡ length mid
    → ((k : ℕ) → k < length old → slice_index off k ≡ with_tags old start v.tags 0 k) → Marks (is_used v.ty) start off mid
    → ((k : ℕ) → k < length mid → slice_index new k ≡ with_tags mid start v.tags 1 k) → Marks (is_used_variant v) start old new
variant_marks start v old off mid new long longer cleared m set = record { long = longer ∙ m.long ∙ long; marks = here }
  where
    here : (k : ℕ) → k < length old → is_mark new k ≡ (is_mark old k || is_in_part start (is_used_variant v) k)
    here k l =
        let low : k < length off = omega (arith, long) in
        let mid_low : k < length mid = omega (arith, long, m.long) in
        let s = nat_le start k in
        let x = is_in_tag v.tags (k - start) in
        ap (nat_lt 0) (set k mid_low) ∙ mark_if (s && x) 1 (slice_index mid k)
        ∙ ap (λ b. if s && x then true else b) (m.marks k low ∙ ap (λ b. b || is_in_part start (is_used v.ty) k) (ap (nat_lt 0) (cleared k l) ∙ mark_if (s && x) 0 (slice_index old k)))
        ∙ tag_cases s x (is_mark old k) (is_used v.ty (k - start))
        ∙ ap (λ b. is_mark old k || (s && b)) (sym (used_variant_is v (k - start)))

-- ---- turns of a walk

-- the next of the parts that are left
pub next_part : {A : Type 0} (xs : List A) (i : ℕ) (x : A) → i < length xs → x ≡ get_or xs i x → drop i xs ≡ x ∷ drop (i + 1) xs
next_part {A} xs i x low same = drop_more xs i x low ∙ ap (λ (y : A). y ∷ drop (i + 1) xs) (sym same)

-- a field more is marked
pub field_turn : (start at i : ℕ) (fields : List (ℕ × Ty)) (f : ℕ × Ty) (old now new : List ℕ) → drop i fields ≡ f ∷ drop (i + 1) fields → at ≡ min (start + f.0) (2 ^ 64 - 1) → length now ≤ 2 ^ 20
    → Owes (is_used_field (drop i fields)) (is_used_field fields) start old now → Marks (is_used f.1) at now new → Owes (is_used_field (drop (i + 1) fields)) (is_used_field fields) start old new
field_turn start at i fields f old now new split moved small so_far m =
    owes_next (is_in_part f.0 (is_used f.1)) (is_used_field (drop i fields)) (is_used_field (drop (i + 1) fields)) (is_used_field fields) start old now new
    (λ k. ap (λ (list : List (ℕ × Ty)). is_used_field list k) split) so_far (marks_moved (is_used f.1) start f.0 at now new moved small m)

pub fields_done : (start i : ℕ) (fields : List (ℕ × Ty)) (old now : List ℕ) → length fields ≤ i → Owes (is_used_field (drop i fields)) (is_used_field fields) start old now → Marks (is_used_field fields) start old now
fields_done start i fields old now past = owes_none (is_used_field (drop i fields)) (is_used_field fields) start old now (λ k. ap (λ (list : List (ℕ × Ty)). is_used_field list k) (drop_all i fields past))

-- the first broken rule of fields that are left is that of the next one, or that of the others
pub field_rule : (i : ℕ) (fields : List (ℕ × Ty)) (f : ℕ × Ty) (rule : Option Rule) → drop i fields ≡ f ∷ drop (i + 1) fields → rule ≡ broken_rule f.1 → first_broken_field fields ≡ first_broken_field (drop i fields)
    → first_broken_field fields ≡ or_else rule (first_broken_field (drop (i + 1) fields))
field_rule i fields f rule split is so_far = so_far ∙ ap first_broken_field split ∙ ap (λ (r : Option Rule). or_else r (first_broken_field (drop (i + 1) fields))) (sym is)

-- a variant more is marked
pub variant_turn : (start i : ℕ) (variants : List Variant) (v : Variant) (left right both : Option Bool) (old now new : List ℕ) → drop i variants ≡ v ∷ drop (i + 1) variants → both ≡ either left right
    → IfSome left (λ b. Owes (is_used_in (drop i variants)) (is_used_in variants) start old now) → IfSome right (λ b. Marks (is_used_variant v) start now new)
    → IfSome both (λ b. Owes (is_used_in (drop (i + 1) variants)) (is_used_in variants) start old new)
variant_turn start i variants v left right both old now new split is so_far m = subst (λ (o : Option Bool). IfSome o (λ b. Owes (is_used_in (drop (i + 1) variants)) (is_used_in variants) start old new)) (sym is) (by left right so_far m)
  where
    by : (left right : Option Bool) → IfSome left (λ b. Owes (is_used_in (drop i variants)) (is_used_in variants) start old now) → IfSome right (λ b. Marks (is_used_variant v) start now new)
        → IfSome (either left right) (λ b. Owes (is_used_in (drop (i + 1) variants)) (is_used_in variants) start old new)
    by (Some a) (Some b) s m =
        owes_next (is_used_variant v) (is_used_in (drop i variants)) (is_used_in (drop (i + 1) variants)) (is_used_in variants) start old now new
        (λ k. ap (λ (list : List Variant). is_used_in list k) split) s m
    by (Some a) None s m = tt
    by None b s m = tt

pub variants_done : (start i : ℕ) (variants : List Variant) (used : Option Bool) (old now : List ℕ) → length variants ≤ i → IfSome used (λ b. Owes (is_used_in (drop i variants)) (is_used_in variants) start old now)
    → IfSome used (λ b. Marks (is_used_in variants) start old now)
variants_done start i variants None old now past so_far = tt
variants_done start i variants (Some b) old now past so_far =
    owes_none (is_used_in (drop i variants)) (is_used_in variants) start old now (λ k. ap (λ (list : List Variant). is_used_in list k) (drop_all i variants past)) so_far

-- whether a byte of its tags is used is known of a variant more
pub tag_turn : (i : ℕ) (variants : List Variant) (v : Variant) (left right both : Option Bool) → drop i variants ≡ v ∷ drop (i + 1) variants → both ≡ either left right
    → IfSome left (λ b. (b || is_variant_tag_used (drop i variants)) ≡ is_variant_tag_used variants) → IfSome right (λ b. b ≡ is_some_tag_used v.ty v.tags)
    → IfSome both (λ b. (b || is_variant_tag_used (drop (i + 1) variants)) ≡ is_variant_tag_used variants)
tag_turn i variants v left right both split is so_far m = subst (λ (o : Option Bool). IfSome o (λ b. (b || is_variant_tag_used (drop (i + 1) variants)) ≡ is_variant_tag_used variants)) (sym is) (by left right so_far m)
  where
    behind : (a b c : Bool) → ((a || b) || c) ≡ (a || (b || c))
    behind true b c = refl
    behind false b c = refl

    by : (left right : Option Bool) → IfSome left (λ b. (b || is_variant_tag_used (drop i variants)) ≡ is_variant_tag_used variants) → IfSome right (λ b. b ≡ is_some_tag_used v.ty v.tags)
        → IfSome (either left right) (λ b. (b || is_variant_tag_used (drop (i + 1) variants)) ≡ is_variant_tag_used variants)
    by (Some a) (Some b) s m =
        behind a b (is_variant_tag_used (drop (i + 1) variants)) ∙ ap (λ c. a || (c || is_variant_tag_used (drop (i + 1) variants))) m
        ∙ ap (λ c. a || c) (sym (ap is_variant_tag_used split)) ∙ s
    by (Some a) None s m = tt
    by None b s m = tt

pub tags_done : (i : ℕ) (variants : List Variant) (used : Option Bool) → length variants ≤ i → IfSome used (λ b. (b || is_variant_tag_used (drop i variants)) ≡ is_variant_tag_used variants)
    → IfSome used (λ b. b ≡ is_variant_tag_used variants)
tags_done i variants None past so_far = tt
tags_done i variants (Some b) past so_far = sym (ap (λ (list : List Variant). b || is_variant_tag_used list) (drop_all i variants past) ∙ or_false b) ∙ so_far

-- the first broken rule of variants that are left is that of the next one's type, or that of the others
pub variant_rule : (i : ℕ) (variants : List Variant) (v : Variant) (rule : Option Rule) → drop i variants ≡ v ∷ drop (i + 1) variants → rule ≡ broken_rule v.ty → first_broken_variant variants ≡ first_broken_variant (drop i variants)
    → first_broken_variant variants ≡ or_else rule (first_broken_variant (drop (i + 1) variants))
variant_rule i variants v rule split is so_far = so_far ∙ ap first_broken_variant split ∙ ap (λ (r : Option Rule). or_else r (first_broken_variant (drop (i + 1) variants))) (sym is)
