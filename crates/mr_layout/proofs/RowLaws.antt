-- What ranges meet of elements in a row is what they meet of one element.
use Rattle.mr_layout.proofs.Common.{◌≡◌, ℕ, suc, ◌+◌, ◌-◌, ◌*◌, ◌%◌, ◌/◌, ◌^◌, ◌<◌, ◌≤◌, ◌⊎◌, inl, inr, Bool, true, false, List, [], ◌∷◌, refl, sym, ap, ◌∙◌, length, get_or, drop, arith, nat_lt, nat_le, ◌&&◌, ◌||◌, min, if◌then◌else◌, and_parts, and_from, and_left, or_from, mod-eq_of_lt, mod-mul-add, or_cases, or_left, or_right, drop_more, Ty, size_of, Use, is_in, is_in_part, is_in_chunk, is_used, is_some_below, is_met, are_rows_met, ranges_past, is_in_order, is_in_order_after, le_from, lt_from, lt_test, le_test}
use Rattle.std.proofs.Math.Nat.{mod-add-div', suc-mul}
use Rattle.mr_layout.specs.Met.{is_row_met}
use Rattle.mr_ast.specs.declared.types.Ty.TheVariants as ty
use Rattle.mr_layout.proofs.RunLaws.{First, first_of_order, earlier}
use Rattle.mr_layout.proofs.UsedLaws.{used_array}
use Rattle.mr_layout.proofs.Below.{some_at, none_below, same_some, same_tests, some_either}

in_of : (start len at : ℕ) → is_in start len at ≡ true → (start ≤ at) × (at < start + len)
in_of start len at h = let p = and_parts (nat_le start at) (nat_lt at (start + len)) h in (le_from _ _ p.0, lt_from _ _ p.1)

in_from : (start len at : ℕ) → start ≤ at → at < start + len → is_in start len at ≡ true
in_from start len at h k = and_from (nat_le start at) (nat_lt at (start + len)) (le_test _ _ h) (lt_test _ _ k)

-- elements of one size, of which one is looked at
module _ (part : Use) (len from to end : ℕ) where
  -- ranges of one element that stand for those of the row
  row_pieces : (pieces : List (ℕ × ℕ)) → 0 < len
      → ((at : ℕ) → from ≤ at → at < to → at < end → is_in_chunk pieces (at % len) ≡ true)
      → ((k : ℕ) → k < len → is_in_chunk pieces k ≡ true → (at : ℕ) × (from ≤ at) × (at < to) × (at < end) × (at % len ≡ k))
      → is_row_met part len from to end ≡ is_met part 0 (len) pieces
  unfolding is_row_met is_met
  row_pieces pieces some there back =
      same_some (λ at. nat_le from at && (nat_lt at to && part (at % len))) (λ at. is_in_part 0 part at && is_in_chunk pieces at) end (len)
      (λ k l e.
      let p = and_parts (nat_le from k) (nat_lt k to && part (k % len)) e in
      let q = and_parts (nat_lt k to) (part (k % len)) p.1 in
      some_at (λ at. is_in_part 0 part at && is_in_chunk pieces at) (len) (k % len) (omega arith)
      (and_from (is_in_part 0 part (k % len)) (is_in_chunk pieces (k % len))
      (and_from (nat_le 0 (k % len)) (part (k % len - 0)) (le_test 0 (k % len) (omega arith)) (ap part (same (k % len)) ∙ q.1))
      (there k (le_from from k p.0) (lt_from k to q.0) l)))
      (λ k l e.
      let p = and_parts (is_in_part 0 part k) (is_in_chunk pieces k) e in
      let u = and_parts (nat_le 0 k) (part (k - 0)) p.0 in
      let w = back k l p.1 in
      some_at (λ at. nat_le from at && (nat_lt at to && part (at % len))) end w.0 w.3
      (and_from (nat_le from w.0) (nat_lt w.0 to && part (w.0 % len)) (le_test from w.0 w.1)
      (and_from (nat_lt w.0 to) (part (w.0 % len)) (lt_test w.0 to w.2) (ap part w.4 ∙ sym (ap part (same k)) ∙ u.1))))
    where
      same : (n : ℕ) → n - 0 ≡ n
      same n = omega arith

  -- no byte of the row
  pub row_none : min to end ≤ from → is_row_met part len from to end ≡ false
  unfolding is_row_met
  row_none h = none_below (λ at. nat_le from at && (nat_lt at to && part (at % len))) end (λ k l. outside k l (nat_le from k) (nat_lt k to) refl refl)
    where
      outside : (k : ℕ) → k < end → (a b : Bool) → nat_le from k ≡ a → nat_lt k to ≡ b → (nat_le from k && (nat_lt k to && part (k % len))) ≡ false
      outside k l false b e f = and_left (nat_le from k) (nat_lt k to && part (k % len)) e
      outside k l true false e f = ap (λ c. c && (nat_lt k to && part (k % len))) e ∙ ap (λ c. c && part (k % len)) f
      outside k l true true e f = absurd (clash (le_from from k e) (lt_from k to f))
        where
          clash : from ≤ k → k < to → ⊥
          clash x y = omega arith

  -- a whole element
  pub row_whole : 0 < len → from + len ≤ min to end → is_row_met part len from to end ≡ is_met part 0 (len) ((0, len) ∷ [])
  row_whole some long =
      row_pieces ((0, len) ∷ []) some
      (λ at h k l. ap (λ b. b || false) (in_from 0 (len) (at % len) (omega arith) (omega arith)))
      (λ k l e. whole k l (cases_le (from % len) k))
    where
      cases_le : (a b : ℕ) → (a ≤ b) ⊎ (b < a)
      cases_le a b = grind arith

      whole : (k : ℕ) → k < len → (from % len ≤ k) ⊎ (k < from % len) → (at : ℕ) × (from ≤ at) × (at < to) × (at < end) × (at % len ≡ k)
      whole k l (inl h) =
          let r = mod-add-div' from (len) in
          (from / len * len + k, omega arith, omega arith, omega arith, mod-mul-add (from / len) (len) k l)
      whole k l (inr h) =
          let r = mod-add-div' from (len) in
          let next : suc (from / len) * len ≡ from / len * len + len = suc-mul (from / len) (len) in
          (suc (from / len) * len + k, omega arith, omega arith, omega arith, mod-mul-add (suc (from / len)) (len) k l)

  -- bytes inside an element
  pub row_inside : (first bytes : ℕ) → first ≡ from % len → bytes ≡ min to end - from → 0 < len → 0 < bytes → first + bytes ≤ len
      → is_row_met part len from to end ≡ is_met part 0 (len) ((first, bytes) ∷ [])
  row_inside first bytes at_first all some any short =
      row_pieces ((first, bytes) ∷ []) some
      (λ at h k l. ap (λ b. b || false) (there at h k l))
      (λ k l e. back k l (one e))
    where
      r : from % len + from / len * len ≡ from
      r = mod-add-div' from (len)

      one : {b : Bool} → (b || false) ≡ true → b ≡ true
      one {b = true} e = refl
      one {b = false} e = e

      there : (at : ℕ) → from ≤ at → at < to → at < end → is_in first bytes (at % len) ≡ true
      there at h k l =
          let w = r in
          let inner : first + (at - from) < len = omega arith in
          let same : from / len * len + (first + (at - from)) ≡ at = omega arith in
          let m : at % len ≡ first + (at - from) = ap (λ n. n % len) (sym same) ∙ mod-mul-add (from / len) (len) (first + (at - from)) inner in
          in_from first bytes (at % len) (omega arith) (omega arith)

      back : (k : ℕ) → k < len → is_in first bytes k ≡ true → (at : ℕ) × (from ≤ at) × (at < to) × (at < end) × (at % len ≡ k)
      back k l e =
          let w = r in
          let p = in_of first bytes k e in
          let low : first ≤ k = p.0 in
          let high : k < first + bytes = p.1 in
          (from / len * len + k, omega arith, omega arith, omega arith, mod-mul-add (from / len) (len) k l)

  -- bytes over the end of an element
  pub row_around : (first bytes : ℕ) → first ≡ from % len → bytes ≡ min to end - from → 0 < len → len < first + bytes → bytes < len
      → is_row_met part len from to end ≡ is_met part 0 (len) ((0, bytes - (len - first)) ∷ (first, len - first) ∷ [])
  row_around first bytes at_first all some long short =
      row_pieces ((0, bytes - (len - first)) ∷ (first, len - first) ∷ []) some
      (λ at h k l. there at h k l (below_or (first + (at - from)) (len)))
      (λ k l e. back k l (or_cases (is_in 0 (bytes - (len - first)) k) (is_in first (len - first) k || false) e))
    where
      r : from % len + from / len * len ≡ from
      r = mod-add-div' from (len)

      next : suc (from / len) * len ≡ from / len * len + len
      next = suc-mul (from / len) (len)

      one : {b : Bool} → (b || false) ≡ true → b ≡ true
      one {b = true} e = refl
      one {b = false} e = e

      below_or : (a b : ℕ) → (a < b) ⊎ (b ≤ a)
      below_or a b = grind arith

      there : (at : ℕ) → from ≤ at → at < to → at < end → (first + (at - from) < len) ⊎ (len ≤ first + (at - from))
          → is_in_chunk ((0, bytes - (len - first)) ∷ (first, len - first) ∷ []) (at % len) ≡ true
      there at h k l (inl inner) =
          let w = r in
          let same : from / len * len + (first + (at - from)) ≡ at = omega arith in
          let m : at % len ≡ first + (at - from) = ap (λ n. n % len) (sym same) ∙ mod-mul-add (from / len) (len) (first + (at - from)) inner in
          or_right (is_in 0 (bytes - (len - first)) (at % len)) (is_in first (len - first) (at % len) || false)
          (ap (λ b. b || false) (in_from first (len - first) (at % len) (omega arith) (omega arith)))
      there at h k l (inr outer) =
          let w = r in
          let v = next in
          let low : from % len < len = omega arith in
          let inner : (first + (at - from)) - len < len = omega arith in
          let same : suc (from / len) * len + ((first + (at - from)) - len) ≡ at = omega arith in
          let m : at % len ≡ (first + (at - from)) - len =
          ap (λ n. n % len) (sym same) ∙ mod-mul-add (suc (from / len)) (len) ((first + (at - from)) - len) inner in
          or_left (is_in 0 (bytes - (len - first)) (at % len)) (is_in first (len - first) (at % len) || false)
          (in_from 0 (bytes - (len - first)) (at % len) (omega arith) (omega arith))

      back : (k : ℕ) → k < len → (is_in 0 (bytes - (len - first)) k ≡ true) ⊎ ((is_in first (len - first) k || false) ≡ true)
          → (at : ℕ) × (from ≤ at) × (at < to) × (at < end) × (at % len ≡ k)
      back k l (inl e) =
          let w = r in
          let v = next in
          let high : k < 0 + (bytes - (len - first)) = (in_of 0 (bytes - (len - first)) k e).1 in
          let low : from % len < len = omega arith in
          (suc (from / len) * len + k, omega arith, omega arith, omega arith, mod-mul-add (suc (from / len)) (len) k l)
      back k l (inr e) =
          let w = r in
          let p = in_of first (len - first) k (one e) in
          let low : first ≤ k = p.0 in
          let high : k < first + (len - first) = p.1 in
          (from / len * len + k, omega arith, omega arith, omega arith, mod-mul-add (from / len) (len) k l)

one : (b : Bool) → (b || false) ≡ true → b ≡ true
one true e = refl
one false e = e

-- what one range meets of elements in a row
one_row : (part whole : Use) (len most start end : ℕ) (r : ℕ × ℕ) → ((at : ℕ) → at < end - start → whole at ≡ (nat_lt at most && part (at % len)))
    → is_met whole start end (r ∷ []) ≡ is_row_met part len (r.0 - start) ((r.0 + r.1) - start) (min end (start + most) - start)
unfolding is_met is_row_met
one_row part whole len most start end r same =
    same_some (λ at. is_in_part start whole at && (is_in r.0 r.1 at || false)) (λ at. nat_le (r.0 - start) at && (nat_lt at ((r.0 + r.1) - start) && part (at % len)))
    end (min end (start + most) - start) there back
  where
    there : (k : ℕ) → k < end → (is_in_part start whole k && (is_in r.0 r.1 k || false)) ≡ true
        → is_some_below (λ at. nat_le (r.0 - start) at && (nat_lt at ((r.0 + r.1) - start) && part (at % len))) (min end (start + most) - start) ≡ true
    there k l e =
        let p = and_parts (is_in_part start whole k) (is_in r.0 r.1 k || false) e in
        let q = and_parts (nat_le start k) (whole (k - start)) p.0 in
        let a : start ≤ k = le_from start k q.0 in
        let u = and_parts (nat_lt (k - start) most) (part ((k - start) % len)) (sym (same (k - start) (omega arith)) ∙ q.1) in
        let i = in_of r.0 r.1 k (one (is_in r.0 r.1 k) p.1) in
        let b : k - start < most = lt_from (k - start) most u.0 in
        let c : r.0 ≤ k = i.0 in
        let d : k < r.0 + r.1 = i.1 in
        some_at (λ at. nat_le (r.0 - start) at && (nat_lt at ((r.0 + r.1) - start) && part (at % len))) (min end (start + most) - start) (k - start) (omega arith)
        (and_from (nat_le (r.0 - start) (k - start)) (nat_lt (k - start) ((r.0 + r.1) - start) && part ((k - start) % len)) (le_test _ _ (omega arith))
        (and_from (nat_lt (k - start) ((r.0 + r.1) - start)) (part ((k - start) % len)) (lt_test _ _ (omega arith)) u.1))

    back : (k : ℕ) → k < min end (start + most) - start → (nat_le (r.0 - start) k && (nat_lt k ((r.0 + r.1) - start) && part (k % len))) ≡ true
        → is_some_below (λ at. is_in_part start whole at && (is_in r.0 r.1 at || false)) end ≡ true
    back k l e =
        let p = and_parts (nat_le (r.0 - start) k) (nat_lt k ((r.0 + r.1) - start) && part (k % len)) e in
        let q = and_parts (nat_lt k ((r.0 + r.1) - start)) (part (k % len)) p.1 in
        let a : r.0 - start ≤ k = le_from (r.0 - start) k p.0 in
        let b : k < (r.0 + r.1) - start = lt_from k ((r.0 + r.1) - start) q.0 in
        let there : k ≡ (start + k) - start = omega arith in
        some_at (λ at. is_in_part start whole at && (is_in r.0 r.1 at || false)) end (start + k) (omega arith)
        (and_from (is_in_part start whole (start + k)) (is_in r.0 r.1 (start + k) || false)
        (and_from (nat_le start (start + k)) (whole ((start + k) - start)) (le_test start (start + k) (omega arith))
        (ap whole (sym there) ∙ same k (omega arith) ∙ and_from (nat_lt k most) (part (k % len)) (lt_test k most (omega arith)) q.1))
        (ap (λ b. b || false) (in_from r.0 r.1 (start + k) (omega arith) (omega arith))))

spread : (p a b : Bool) → (p && (a || b)) ≡ ((p && (a || false)) || (p && b))
spread false a b = refl
spread true true b = refl
spread true false b = refl

never : (b : Bool) → (b && false) ≡ false
never true = refl
never false = refl

-- what ranges meet of elements in a row, one range after another
pub met_none : (whole : Use) (start end : ℕ) → is_met whole start end [] ≡ false
unfolding is_met
met_none whole start end = none_below (λ at. is_in_part start whole at && is_in_chunk [] at) end (λ k l. never (is_in_part start whole k))

pub met_one : (whole : Use) (start end : ℕ) (r : ℕ × ℕ) (ranges : List (ℕ × ℕ)) → is_met whole start end (r ∷ ranges) ≡ (is_met whole start end (r ∷ []) || is_met whole start end ranges)
unfolding is_met
met_one whole start end r ranges =
    same_tests _ _ end (λ k l. spread (is_in_part start whole k) (is_in r.0 r.1 k) (is_in_chunk ranges k))
    ∙ some_either (λ at. is_in_part start whole at && is_in_chunk (r ∷ []) at) (λ at. is_in_part start whole at && is_in_chunk ranges at) end

rows : (part whole : Use) (len most start end : ℕ) (ranges : List (ℕ × ℕ)) → ((at : ℕ) → at < end - start → whole at ≡ (nat_lt at most && part (at % len)))
    → is_met whole start end ranges ≡ are_rows_met part len start (min end (start + most)) ranges
rows part whole len most start end [] same = met_none whole start end
rows part whole len most start end (r ∷ ranges) same =
    met_one whole start end r ranges ∙ (λ i. one_row part whole len most start end r same i || rows part whole len most start end ranges same i)

-- what ranges meet of an array
pub array_rows : (count : ℕ) (elem : Ty) (start end : ℕ) (ranges : List (ℕ × ℕ)) → end ≤ 2 ^ 63
    → is_met (is_used (ty.Array count elem)) start end ranges ≡ are_rows_met (is_used elem) (min (size_of elem) (2 ^ 63)) start (min end (start + count * size_of elem)) ranges
array_rows count elem start end ranges small =
    rows (is_used elem) (is_used (ty.Array count elem)) (min (size_of elem) (2 ^ 63)) (count * size_of elem) start end ranges
    (λ at h. used_array count elem at ∙ ap (λ n. nat_lt at (count * size_of elem) && is_used elem n) (same at (omega arith) (below_or (size_of elem) (2 ^ 63))))
  where
    below_or : (a b : ℕ) → (a < b) ⊎ (b ≤ a)
    below_or a b = grind arith

    same : (at : ℕ) → at < 2 ^ 63 → (size_of elem < 2 ^ 63) ⊎ (2 ^ 63 ≤ size_of elem) → at % size_of elem ≡ at % min (size_of elem) (2 ^ 63)
    same at l (inl h) = let e : size_of elem ≡ min (size_of elem) (2 ^ 63) = omega arith in ap (λ n. at % n) e
    same at l (inr h) =
        let e : 2 ^ 63 ≡ min (size_of elem) (2 ^ 63) = omega arith in
        let far : at < size_of elem = omega arith in
        mod-eq_of_lt far ∙ sym (mod-eq_of_lt l) ∙ ap (λ n. at % n) e

-- no byte of elements that stop where they begin
pub rows_empty : (part : Use) (len start stop : ℕ) (ranges : List (ℕ × ℕ)) → stop ≤ start → are_rows_met part len start stop ranges ≡ false
rows_empty part len start stop [] h = refl
rows_empty part len start stop (r ∷ ranges) h =
    or_from (is_row_met part len (r.0 - start) ((r.0 + r.1) - start) (stop - start)) (are_rows_met part len start stop ranges)
    (row_none part len (r.0 - start) ((r.0 + r.1) - start) (stop - start) (omega arith)) (rows_empty part len start stop ranges h)

-- ranges that end before the elements begin
pub rows_past : (part : Use) (len start stop : ℕ) (ranges : List (ℕ × ℕ)) → are_rows_met part len start stop (ranges_past start ranges) ≡ are_rows_met part len start stop ranges
rows_past part len start stop [] = refl
rows_past part len start stop (r ∷ ranges) = by (rows_past part len start stop ranges) (nat_le (r.0 + r.1) start) refl
  where
    by : are_rows_met part len start stop (ranges_past start ranges) ≡ are_rows_met part len start stop ranges → (b : Bool) → nat_le (r.0 + r.1) start ≡ b
        → are_rows_met part len start stop (if nat_le (r.0 + r.1) start then ranges_past start ranges else r ∷ ranges) ≡ are_rows_met part len start stop (r ∷ ranges)
    by rest true e =
        let h : r.0 + r.1 ≤ start = le_from (r.0 + r.1) start e in
        ap (λ b. are_rows_met part len start stop (if b then ranges_past start ranges else r ∷ ranges)) e ∙ rest
        ∙ sym (ap (λ b. b || are_rows_met part len start stop ranges) (row_none part len (r.0 - start) ((r.0 + r.1) - start) (stop - start) (omega arith)))
    by rest false e = ap (λ b. are_rows_met part len start stop (if b then ranges_past start ranges else r ∷ ranges)) e

-- ranges that begin where the elements stop, or behind
pub rows_done : (part : Use) (len start stop low : ℕ) (ranges : List (ℕ × ℕ)) → stop ≤ low → is_in_order_after low ranges ≡ true → are_rows_met part len start stop ranges ≡ false
rows_done part len start stop low [] h e = refl
rows_done part len start stop low (r ∷ ranges) h e =
    let f = first_of_order low r ranges e in
    let l : low ≤ r.0 = f.behind in
    or_from (is_row_met part len (r.0 - start) ((r.0 + r.1) - start) (stop - start)) (are_rows_met part len start stop ranges)
    (row_none part len (r.0 - start) ((r.0 + r.1) - start) (stop - start) (omega arith))
    (rows_done part len start stop (r.0 + r.1) ranges (omega arith) f.rest)

-- what is left of ranges in order, at one of them
pub order_next : (ranges : List (ℕ × ℕ)) (i : ℕ) (d : ℕ × ℕ) → i < length ranges → is_in_order (drop i ranges) ≡ true → First 0 (get_or ranges i d) (drop (i + 1) ranges)
order_next ranges i d h e = first_of_order 0 (get_or ranges i d) (drop (i + 1) ranges) (sym (ap is_in_order (drop_more ranges i d h)) ∙ e)

pub order_rest : (ranges : List (ℕ × ℕ)) (i : ℕ) (d : ℕ × ℕ) → i < length ranges → is_in_order (drop i ranges) ≡ true → is_in_order (drop (i + 1) ranges) ≡ true
order_rest ranges i d h e =
    let f = order_next ranges i d h e in
    earlier 0 ((get_or ranges i d).0 + (get_or ranges i d).1) (drop (i + 1) ranges) (omega arith) f.rest

-- the rest behind a range that meets nothing
pub rows_next : (part : Use) (len start stop : ℕ) (ranges : List (ℕ × ℕ)) (i : ℕ) (d : ℕ × ℕ) → i < length ranges
    → is_row_met part len ((get_or ranges i d).0 - start) (((get_or ranges i d).0 + (get_or ranges i d).1) - start) (stop - start) ≡ false
    → are_rows_met part len start stop (drop i ranges) ≡ are_rows_met part len start stop (drop (i + 1) ranges)
rows_next part len start stop ranges i d h e =
    ap (are_rows_met part len start stop) (drop_more ranges i d h) ∙ ap (λ b. b || are_rows_met part len start stop (drop (i + 1) ranges)) e

-- the rest from a range on that begins where the elements stop, or behind
pub rows_over : (part : Use) (len start stop : ℕ) (ranges : List (ℕ × ℕ)) (i : ℕ) (d : ℕ × ℕ) → i < length ranges → stop ≤ (get_or ranges i d).0
    → is_in_order (drop i ranges) ≡ true → are_rows_met part len start stop (drop i ranges) ≡ false
rows_over part len start stop ranges i d h l e =
    let r = get_or ranges i d in
    let f = order_next ranges i d h e in
    ap (are_rows_met part len start stop) (drop_more ranges i d h)
    ∙ or_from (is_row_met part len (r.0 - start) ((r.0 + r.1) - start) (stop - start)) (are_rows_met part len start stop (drop (i + 1) ranges))
    (row_none part len (r.0 - start) ((r.0 + r.1) - start) (stop - start) (omega arith))
    (rows_done part len start stop (r.0 + r.1) (drop (i + 1) ranges) (omega arith) f.rest)

-- what is looked at of an array, before the first range
pub array_init : (t : Ty) (count : ℕ) (elem : Ty) (start end : ℕ) (ranges past : List (ℕ × ℕ)) (len stop : ℕ) → end ≤ 2 ^ 63 → t ≡ ty.Array count elem
    → past ≡ ranges_past start ranges → len ≡ min (size_of elem) (2 ^ 63) → stop ≡ min end (start + count * size_of elem)
    → is_met (is_used t) start end ranges ≡ are_rows_met (is_used elem) len start stop past
array_init t count elem start end ranges past len stop small array behind at_len at_stop =
    ap (λ t. is_met (is_used t) start end ranges) array ∙ array_rows count elem start end ranges small
    ∙ sym (rows_past (is_used elem) (min (size_of elem) (2 ^ 63)) start (min end (start + count * size_of elem)) ranges)
    ∙ (λ i. are_rows_met (is_used elem) (sym at_len i) start (sym at_stop i) (sym behind i))

-- elements without a byte stop where they begin
pub array_empty : (count size start end stop len : ℕ) → len ≡ min size (2 ^ 63) → stop ≡ min end (start + count * size) → len ≡ 0 → stop ≤ start
array_empty count size start end stop len at_len at_stop none =
    let zero : size ≡ 0 = omega arith in
    let all : count * size ≡ count * 0 = ap (λ n. count * n) zero in
    omega arith
