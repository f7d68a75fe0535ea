-- Ranges in order: which of them come behind a byte, and what a run of bytes meets of them.
use Rattle.mr_layout.proofs.Common.{◌≡◌, ℕ, zero, suc, ◌+◌, ◌^◌, ◌<◌, ◌≤◌, ◌⊎◌, inl, inr, Bool, true, false, List, [], ◌∷◌, length, get_or, drop, refl, sym, ap, ◌∙◌, arith, subst, nat_lt, nat_le, ◌&&◌, ◌||◌, min, if◌then◌else◌, and_parts, and_from, and_left, or_from, or_left, both_ways, cases_lt, nat_tests, is_in, is_in_chunk, is_some_below, is_run_met, ranges_past, is_in_order, is_in_order_after, le_from, lt_from, lt_test, le_test}
use Rattle.std.specs.List.Sorted.{IsNonDecreasingBy}
use Rattle.std.proofs.lemmas.List.Sorted.{IsNonDecreasingBy-from_all_adjacent}
use Rattle.mr_layout.proofs.Below.{some_at, none_below, same_tests}

-- the first range of some in order, and the others
pub record First (low : ℕ) (r : ℕ × ℕ) (ranges : List (ℕ × ℕ)) : Type 0 where
  pub behind : low ≤ r.0
  pub some : 0 < r.1
  pub small : r.0 + r.1 ≤ 2 ^ 64
  pub rest : is_in_order_after (r.0 + r.1) ranges ≡ true

pub first_of_order : (low : ℕ) (r : ℕ × ℕ) (ranges : List (ℕ × ℕ)) → is_in_order_after low (r ∷ ranges) ≡ true → First low r ranges
first_of_order low r ranges e =
    let p = and_parts (nat_le low r.0) (nat_lt 0 r.1 && (nat_le (r.0 + r.1) (2 ^ 64) && is_in_order_after (r.0 + r.1) ranges)) e in
    let q = and_parts (nat_lt 0 r.1) (nat_le (r.0 + r.1) (2 ^ 64) && is_in_order_after (r.0 + r.1) ranges) p.1 in
    let s = and_parts (nat_le (r.0 + r.1) (2 ^ 64)) (is_in_order_after (r.0 + r.1) ranges) q.1 in
    record { behind = le_from low r.0 p.0; some = lt_from 0 r.1 q.0; small = le_from (r.0 + r.1) (2 ^ 64) s.0; rest = s.1 }

-- ranges that are in order after a byte are so after an earlier one
pub earlier : (low at : ℕ) (ranges : List (ℕ × ℕ)) → low ≤ at → is_in_order_after at ranges ≡ true → is_in_order_after low ranges ≡ true
earlier low at [] h e = refl
earlier low at (r ∷ ranges) h e =
    let p = and_parts (nat_le at r.0) (nat_lt 0 r.1 && (nat_le (r.0 + r.1) (2 ^ 64) && is_in_order_after (r.0 + r.1) ranges)) e in
    let l : at ≤ r.0 = le_from at r.0 p.0 in
    and_from (nat_le low r.0) (nat_lt 0 r.1 && (nat_le (r.0 + r.1) (2 ^ 64) && is_in_order_after (r.0 + r.1) ranges)) (le_test low r.0 (omega arith)) p.1

pub order_past : (low at : ℕ) (ranges : List (ℕ × ℕ)) → is_in_order_after low ranges ≡ true → is_in_order_after low (ranges_past at ranges) ≡ true
order_past low at [] e = refl
order_past low at (r ∷ ranges) e = by (order_past (r.0 + r.1) at ranges (first_of_order low r ranges e).rest) (nat_le (r.0 + r.1) at) refl
  where
    by : is_in_order_after (r.0 + r.1) (ranges_past at ranges) ≡ true → (b : Bool) → nat_le (r.0 + r.1) at ≡ b → is_in_order_after low (if nat_le (r.0 + r.1) at then ranges_past at ranges else r ∷ ranges) ≡ true
    by rest true k =
        let f = first_of_order low r ranges e in
        let l : low ≤ r.0 = f.behind in
        ap (λ b. is_in_order_after low (if b then ranges_past at ranges else r ∷ ranges)) k ∙ earlier low (r.0 + r.1) (ranges_past at ranges) (omega arith) rest
    by rest false k = ap (λ b. is_in_order_after low (if b then ranges_past at ranges else r ∷ ranges)) k ∙ e

-- no byte before the first range is in one
pub before_all : (low at : ℕ) (ranges : List (ℕ × ℕ)) → at < low → is_in_order_after low ranges ≡ true → is_in_chunk ranges at ≡ false
before_all low at [] h e = refl
before_all low at (r ∷ ranges) h e =
    let f = first_of_order low r ranges e in
    let b : low ≤ r.0 = f.behind in
    let apart : nat_le r.0 at ≡ false = grind (arith, nat_tests) in
    or_from (is_in r.0 r.1 at) (is_in_chunk ranges at) (and_left (nat_le r.0 at) (nat_lt at (r.0 + r.1)) apart) (before_all (r.0 + r.1) at ranges (omega arith) f.rest)

-- the ranges that end before a byte are not missed from there on
in_past : (from at : ℕ) (ranges : List (ℕ × ℕ)) → from ≤ at → is_in_chunk (ranges_past from ranges) at ≡ is_in_chunk ranges at
in_past from at [] h = refl
in_past from at (r ∷ ranges) h = by (in_past from at ranges h) (nat_le (r.0 + r.1) from) refl
  where
    by : is_in_chunk (ranges_past from ranges) at ≡ is_in_chunk ranges at → (b : Bool) → nat_le (r.0 + r.1) from ≡ b → is_in_chunk (if nat_le (r.0 + r.1) from then ranges_past from ranges else r ∷ ranges) at ≡ is_in_chunk (r ∷ ranges) at
    by rest true e =
        let l : r.0 + r.1 ≤ from = le_from (r.0 + r.1) from e in
        let apart : is_in r.0 r.1 at ≡ false = grind (arith, nat_tests) in
        ap (λ b. is_in_chunk (if b then ranges_past from ranges else r ∷ ranges) at) e ∙ rest ∙ sym (ap (λ b. b || is_in_chunk ranges at) apart)
    by rest false e = ap (λ b. is_in_chunk (if b then ranges_past from ranges else r ∷ ranges) at) e

-- a run of bytes meets no range that ends before it
pub run_past : (start len end : ℕ) (ranges : List (ℕ × ℕ)) → is_run_met start len end (ranges_past start ranges) ≡ is_run_met start len end ranges
unfolding is_run_met
run_past start len end ranges = same_tests _ _ end (λ k l. by k (nat_le start k) refl)
  where
    by : (k : ℕ) (b : Bool) → nat_le start k ≡ b → (is_in start len k && is_in_chunk (ranges_past start ranges) k) ≡ (is_in start len k && is_in_chunk ranges k)
    by k true e = ap (λ b. is_in start len k && b) (in_past start k ranges (le_from start k e))
    by k false e = (λ i. (e i && nat_lt k (start + len)) && is_in_chunk (ranges_past start ranges) k) ∙ sym (λ i. (e i && nat_lt k (start + len)) && is_in_chunk ranges k)

pub run_none : (start len end : ℕ) → is_run_met start len end [] ≡ false
unfolding is_run_met
run_none start len end = none_below (λ at. is_in start len at && is_in_chunk [] at) end (λ k l. never (is_in start len k))
  where
    never : (b : Bool) → (b && false) ≡ false
    never true = refl
    never false = refl

-- a run meets the first range that ends behind its start, or none
pub run_first : (start len end : ℕ) (r : ℕ × ℕ) (ranges : List (ℕ × ℕ)) → is_in_order (r ∷ ranges) ≡ true → start < r.0 + r.1
    → is_run_met start len end (r ∷ ranges) ≡ (nat_lt start (min end (start + len)) && nat_lt r.0 (min end (start + len)))
unfolding is_run_met
run_first start len end r ranges order ends = by (nat_lt start (min end (start + len))) (nat_lt r.0 (min end (start + len))) refl refl
  where
    met : start < min end (start + len) → r.0 < min end (start + len) → (nat_le start r.0 ≡ true) ⊎ (nat_le start r.0 ≡ false)
        → is_some_below (λ at. is_in start len at && is_in_chunk (r ∷ ranges) at) end ≡ true
    met a b (inl e) =
        let f = first_of_order 0 r ranges order in
        let s : 0 < r.1 = f.some in
        let l : start ≤ r.0 = le_from start r.0 e in
        some_at (λ at. is_in start len at && is_in_chunk (r ∷ ranges) at) end r.0 (omega arith)
        (and_from (is_in start len r.0) (is_in_chunk (r ∷ ranges) r.0)
        (and_from (nat_le start r.0) (nat_lt r.0 (start + len)) e (lt_test r.0 (start + len) (omega arith)))
        (or_left (is_in r.0 r.1 r.0) (is_in_chunk ranges r.0) (and_from (nat_le r.0 r.0) (nat_lt r.0 (r.0 + r.1)) (le_test r.0 r.0 (omega arith)) (lt_test r.0 (r.0 + r.1) (omega arith)))))
    met a b (inr e) =
        let l : r.0 < start = grind (arith, nat_tests) in
        some_at (λ at. is_in start len at && is_in_chunk (r ∷ ranges) at) end start (omega arith)
        (and_from (is_in start len start) (is_in_chunk (r ∷ ranges) start)
        (and_from (nat_le start start) (nat_lt start (start + len)) (le_test start start (omega arith)) (lt_test start (start + len) (omega arith)))
        (or_left (is_in r.0 r.1 start) (is_in_chunk ranges start) (and_from (nat_le r.0 start) (nat_lt start (r.0 + r.1)) (le_test r.0 start (omega arith)) (lt_test start (r.0 + r.1) ends))))

    either : (b : Bool) → (b ≡ true) ⊎ (b ≡ false)
    either true = inl refl
    either false = inr refl

    missed : (k : ℕ) → k < end → ((a : start < min end (start + len)) → r.0 < min end (start + len) → ⊥) → (is_in start len k && is_in_chunk (r ∷ ranges) k) ≡ false
    missed k l never_both = at_byte (is_in start len k) refl
      where
        at_byte : (b : Bool) → is_in start len k ≡ b → (is_in start len k && is_in_chunk (r ∷ ranges) k) ≡ false
        at_byte false e = and_left (is_in start len k) (is_in_chunk (r ∷ ranges) k) e
        at_byte true e =
            let p = and_parts (nat_le start k) (nat_lt k (start + len)) e in
            let a : start ≤ k = le_from start k p.0 in
            let b : k < start + len = lt_from k (start + len) p.1 in
            let c : min end (start + len) ≤ r.0 = above (λ h. never_both (omega arith) h) in
            let f = first_of_order 0 r ranges order in
            let h : is_in_order_after r.0 (r ∷ ranges) ≡ true =
            and_from (nat_le r.0 r.0) (nat_lt 0 r.1 && (nat_le (r.0 + r.1) (2 ^ 64) && is_in_order_after (r.0 + r.1) ranges)) (le_test r.0 r.0 (omega arith))
            (and_parts (nat_le 0 r.0) (nat_lt 0 r.1 && (nat_le (r.0 + r.1) (2 ^ 64) && is_in_order_after (r.0 + r.1) ranges)) order).1 in
            ap (λ x. is_in start len k && x) (before_all r.0 k (r ∷ ranges) (omega arith) h) ∙ never (is_in start len k)
          where
            above : (r.0 < min end (start + len) → ⊥) → min end (start + len) ≤ r.0
            above h = by_order (cases_lt r.0 (min end (start + len)))
              where
                by_order : (r.0 < min end (start + len)) ⊎ (min end (start + len) ≤ r.0) → min end (start + len) ≤ r.0
                by_order (inl k) = absurd (h k)
                by_order (inr k) = k

            never : (b : Bool) → (b && false) ≡ false
            never true = refl
            never false = refl

    by : (a b : Bool) → nat_lt start (min end (start + len)) ≡ a → nat_lt r.0 (min end (start + len)) ≡ b
        → is_some_below (λ at. is_in start len at && is_in_chunk (r ∷ ranges) at) end ≡ (nat_lt start (min end (start + len)) && nat_lt r.0 (min end (start + len)))
    by true true e f = met (lt_from _ _ e) (lt_from _ _ f) (either (nat_le start r.0)) ∙ sym (λ i. e i && f i)
    by true false e f =
        none_below (λ at. is_in start len at && is_in_chunk (r ∷ ranges) at) end (λ k l. missed k l (λ x y. absurd (both_ways _ f (lt_test _ _ y)))) ∙ sym (λ i. e i && f i)
    by false b e f =
        none_below (λ at. is_in start len at && is_in_chunk (r ∷ ranges) at) end (λ k l. missed k l (λ x y. absurd (both_ways _ e (lt_test _ _ x))))
        ∙ sym (λ i. e i && nat_lt r.0 (min end (start + len)))

-- the first of the ranges behind a byte ends behind it
pub past_ends : (at : ℕ) (ranges rest : List (ℕ × ℕ)) (r : ℕ × ℕ) → ranges_past at ranges ≡ r ∷ rest → at < r.0 + r.1
past_ends at [] rest r e = cc
past_ends at (s ∷ ranges) rest r e = by (past_ends at ranges rest r) (nat_le (s.0 + s.1) at) refl
  where
    by : (ranges_past at ranges ≡ r ∷ rest → at < r.0 + r.1) → (b : Bool) → nat_le (s.0 + s.1) at ≡ b → at < r.0 + r.1
    by later true k = later (sym (ap (λ b. if b then ranges_past at ranges else s ∷ ranges) k) ∙ e)
    by later false k =
        let same : s ∷ ranges ≡ r ∷ rest = sym (ap (λ b. if b then ranges_past at ranges else s ∷ ranges) k) ∙ e in
        let one : s ≡ r = cc in
        let h : at < s.0 + s.1 = grind (arith, nat_tests) in
        subst (λ x. at < x.0 + x.1) one h

next_ends : (low : ℕ) (ranges : List (ℕ × ℕ)) → is_in_order_after low ranges ≡ true → (k : ℕ) (d : ℕ × ℕ) → k + 1 < length ranges
    → (get_or ranges k d).0 + (get_or ranges k d).1 ≤ (get_or ranges (k + 1) d).0 + (get_or ranges (k + 1) d).1
next_ends low [] e k d h = absurd (omega arith)
next_ends low (r ∷ []) e k d h = absurd (omega arith)
next_ends low (r ∷ s ∷ ranges) e zero d h =
    let f = first_of_order low r (s ∷ ranges) e in
    let g = first_of_order (r.0 + r.1) s ranges f.rest in
    let b : r.0 + r.1 ≤ s.0 = g.behind in
    omega arith
next_ends low (r ∷ s ∷ ranges) e (suc k) d h =
    let f = first_of_order low r (s ∷ ranges) e in
    let same : suc k + 1 ≡ suc (k + 1) = omega arith in
    subst (λ n. (get_or (s ∷ ranges) k d).0 + (get_or (s ∷ ranges) k d).1 ≤ (get_or (r ∷ s ∷ ranges) n d).0 + (get_or (r ∷ s ∷ ranges) n d).1) (sym same)
    (next_ends (r.0 + r.1) (s ∷ ranges) f.rest k d (omega arith))

-- the ends of ranges in order rise
pub ends_rise : (low : ℕ) (ranges : List (ℕ × ℕ)) → is_in_order_after low ranges ≡ true → IsNonDecreasingBy (λ (r : ℕ × ℕ). r.0 + r.1) ranges
ends_rise low ranges e = IsNonDecreasingBy-from_all_adjacent (λ (r : ℕ × ℕ). r.0 + r.1) ranges (next_ends low ranges e)

-- the first range that ends behind a byte, as a search finds it
pub past_point : (at : ℕ) (ranges : List (ℕ × ℕ)) (i : ℕ) → i ≤ length ranges
    → ((k : ℕ) (d : ℕ × ℕ) → k < i → nat_le ((get_or ranges k d).0 + (get_or ranges k d).1) at ≡ true)
    → ((k : ℕ) (d : ℕ × ℕ) → i ≤ k → k < length ranges → nat_le ((get_or ranges k d).0 + (get_or ranges k d).1) at ≡ false)
    → drop i ranges ≡ ranges_past at ranges
past_point at [] zero h before behind = refl
past_point at [] (suc i) h before behind = refl
past_point at (r ∷ ranges) zero h before behind = sym (ap (λ b. if b then ranges_past at ranges else r ∷ ranges) (behind 0 r (omega arith) (omega arith)))
past_point at (r ∷ ranges) (suc i) h before behind =
    past_point at ranges i (omega arith) (λ k d l. before (suc k) d (omega arith)) (λ k d l m. behind (suc k) d (omega arith) (omega arith))
    ∙ sym (ap (λ b. if b then ranges_past at ranges else r ∷ ranges) (before 0 r (omega arith)))

no_items : (xs : List (ℕ × ℕ)) → length xs < 1 → xs ≡ []
no_items [] h = refl
no_items (x ∷ xs) h = absurd (omega arith)

-- no range ends behind the start of a run
pub run_missed : (start len end : ℕ) (ranges rest : List (ℕ × ℕ)) → rest ≡ ranges_past start ranges → length rest < 1 → is_run_met start len end ranges ≡ false
run_missed start len end ranges rest behind none =
    sym (run_past start len end ranges) ∙ ap (is_run_met start len end) (sym behind ∙ no_items rest none) ∙ run_none start len end

-- a range ends behind the start of a run: whether it begins before the stop
pub run_seen : (start len end : ℕ) (ranges rest : List (ℕ × ℕ)) (stop : ℕ) → rest ≡ ranges_past start ranges → 0 < length rest → is_in_order ranges ≡ true
    → stop ≡ min end (start + len) → (b : Bool) → nat_lt start stop ≡ b → (b && nat_lt (get_or rest 0 (0, 0)).0 stop) ≡ is_run_met start len end ranges
run_seen start len end ranges [] stop behind some order at_stop b e = absurd (omega arith)
run_seen start len end ranges (r ∷ rest) stop behind some order at_stop b e =
    let past = run_past start len end ranges in
    let ends = past_ends start ranges rest r (sym behind) in
    let ordered = ap is_in_order behind ∙ order_past 0 start ranges order in
    let first = run_first start len end r rest ordered ends in
    (λ i. sym e i && nat_lt r.0 stop) ∙ (λ i. nat_lt start (at_stop i) && nat_lt r.0 (at_stop i)) ∙ sym first ∙ ap (is_run_met start len end) behind ∙ past
