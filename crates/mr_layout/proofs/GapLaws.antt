-- The ranges between chunks: a byte is in one of them where it is in no chunk, so that a field is covered where it meets none.
use Rattle.mr_layout.proofs.Common.{◌≡◌, ℕ, zero, suc, ◌+◌, ◌-◌, ◌^◌, ◌<◌, ◌≤◌, Bool, true, false, List, [], ◌∷◌, refl, sym, ap, subst, ◌∙◌, arith, nat_lt, nat_le, not, ◌&&◌, ◌||◌, if◌then◌else◌, and_parts, and_from, and_left, or_from, or_parts, nat_tests, Ty, not_empty, size_of, is_in, is_in_part, is_in_chunk, is_used, is_past, is_chunk_past, is_rising, is_rising_after, is_covered, are_covered, is_some_below, is_met, is_in_order, is_in_order_after, gaps_from, are_outside, le_from, lt_from, le_test}
use Rattle.mr_layout.specs.Met.{end_of}
use Rattle.mr_layout.proofs.Below.{none_below, same_tests}
use Rattle.mr_layout.proofs.RunLaws.{earlier}

-- chunks that rise after a start have no byte up to it
before_rising : (start at : ℕ) (chunks : List (ℕ × ℕ)) → at ≤ start → is_rising_after start chunks ≡ true → is_in_chunk chunks at ≡ false
before_rising start at [] h e = refl
before_rising start at (c ∷ chunks) h e =
    let p = and_parts (nat_lt start c.0) (is_rising_after c.0 chunks) e in
    let l : start < c.0 = lt_from start c.0 p.0 in
    let apart : nat_le c.0 at ≡ false = grind (arith, nat_tests) in
    or_from (is_in c.0 c.1 at) (is_in_chunk chunks at) (and_left (nat_le c.0 at) (nat_lt at (c.0 + c.1)) apart) (before_rising c.0 at chunks (omega arith) p.1)

rest_rises : (start : ℕ) (chunks : List (ℕ × ℕ)) → is_rising_after start chunks ≡ true → is_rising chunks ≡ true
rest_rises start [] e = refl
rest_rises start (c ∷ chunks) e = (and_parts (nat_lt start c.0) (is_rising_after c.0 chunks) e).1

-- at the first chunk: in the gap before it, in it, or behind
gap_at : (at start len next k : ℕ) (later : Bool) → (k ≤ start → later ≡ false) → next ≡ (if nat_lt at (start + len) then start + len else at)
    → (is_in at (start - at) k || (nat_le next k && not later)) ≡ (nat_le at k && not (is_in start len k || later))
gap_at at start len next k true none n = by (nat_le k start) refl
  where
    by : (b : Bool) → nat_le k start ≡ b → (is_in at (start - at) k || (nat_le next k && false)) ≡ (nat_le at k && not (is_in start len k || true))
    by true e = absurd (clash (none (le_from k start e)))
      where
        clash : true ≡ false → ⊥
        clash h = cc
    by false e = grind (arith, nat_tests)
gap_at at start len next k false none n = by (nat_lt at (start + len)) refl
  where
    by : (b : Bool) → nat_lt at (start + len) ≡ b → (is_in at (start - at) k || (nat_le next k && true)) ≡ (nat_le at k && not (is_in start len k || false))
    by true e = let m : next ≡ start + len = n ∙ ap (λ b. if b then start + len else at) e in grind (arith, nat_tests)
    by false e = let m : next ≡ at = n ∙ ap (λ b. if b then start + len else at) e in grind (arith, nat_tests)

-- a byte from an offset to the end is in a gap where it is in no chunk
in_gap : (at end k : ℕ) (chunks : List (ℕ × ℕ)) → k < end → is_rising chunks ≡ true → is_in_chunk (gaps_from at end chunks) k ≡ (nat_le at k && not (is_in_chunk chunks k))
in_gap at end k [] h e = grind (arith, nat_tests)
in_gap at end k (c ∷ chunks) h e =
    ap (λ b. is_in at (c.0 - at) k || b) (in_gap (end_of at c) end k chunks h (rest_rises c.0 chunks e))
    ∙ gap_at at c.0 c.1 (end_of at c) k (is_in_chunk chunks k) (λ l. before_rising c.0 k chunks l e) refl

pub in_not_empty : (ranges : List (ℕ × ℕ)) (k : ℕ) → is_in_chunk (not_empty ranges) k ≡ is_in_chunk ranges k
in_not_empty [] k = refl
in_not_empty (r ∷ ranges) k = by (in_not_empty ranges k) (nat_lt 0 r.1) refl
  where
    by : is_in_chunk (not_empty ranges) k ≡ is_in_chunk ranges k → (b : Bool) → nat_lt 0 r.1 ≡ b → is_in_chunk (if nat_lt 0 r.1 then r ∷ not_empty ranges else not_empty ranges) k ≡ is_in_chunk (r ∷ ranges) k
    by rest true e = ap (λ b. is_in_chunk (if b then r ∷ not_empty ranges else not_empty ranges) k) e ∙ ap (λ b. is_in r.0 r.1 k || b) rest
    by rest false e =
        let none : is_in r.0 r.1 k ≡ false = grind (arith, nat_tests) in
        ap (λ b. is_in_chunk (if b then r ∷ not_empty ranges else not_empty ranges) k) e ∙ rest ∙ sym (ap (λ b. b || is_in_chunk ranges k) none)

pub in_gaps : (end k : ℕ) (chunks : List (ℕ × ℕ)) → k < end → is_rising chunks ≡ true → is_in_chunk (not_empty (gaps_from 0 end chunks)) k ≡ not (is_in_chunk chunks k)
in_gaps end k chunks h e = in_not_empty (gaps_from 0 end chunks) k ∙ in_gap 0 end k chunks h e ∙ ap (λ b. b && not (is_in_chunk chunks k)) (le_test 0 k (omega arith))

one_more : (low : ℕ) (r : ℕ × ℕ) (ranges : List (ℕ × ℕ)) → low ≤ r.0 → (0 < r.1 → r.0 + r.1 ≤ 2 ^ 64) → is_in_order_after (r.0 + r.1) ranges ≡ true
    → is_in_order_after low (if nat_lt 0 r.1 then r ∷ ranges else ranges) ≡ true
one_more low r ranges l small rest = by (nat_lt 0 r.1) refl
  where
    by : (b : Bool) → nat_lt 0 r.1 ≡ b → is_in_order_after low (if nat_lt 0 r.1 then r ∷ ranges else ranges) ≡ true
    by true e =
        ap (λ b. is_in_order_after low (if b then r ∷ ranges else ranges)) e
        ∙ and_from (nat_le low r.0) (nat_lt 0 r.1 && (nat_le (r.0 + r.1) (2 ^ 64) && is_in_order_after (r.0 + r.1) ranges)) (le_test low r.0 l)
        (and_from (nat_lt 0 r.1) (nat_le (r.0 + r.1) (2 ^ 64) && is_in_order_after (r.0 + r.1) ranges) e
        (and_from (nat_le (r.0 + r.1) (2 ^ 64)) (is_in_order_after (r.0 + r.1) ranges) (le_test (r.0 + r.1) (2 ^ 64) (small (lt_from 0 r.1 e))) rest))
    by false e = ap (λ b. is_in_order_after low (if b then r ∷ ranges else ranges)) e ∙ earlier low (r.0 + r.1) ranges (omega arith) rest

-- what was looked at never ends before a chunk's start
ends_behind : (at : ℕ) (c : ℕ × ℕ) → at + (c.0 - at) ≤ end_of at c
ends_behind at c = by (nat_lt at (c.0 + c.1)) refl
  where
    by : (b : Bool) → nat_lt at (c.0 + c.1) ≡ b → at + (c.0 - at) ≤ end_of at c
    by true e =
        let l : at < c.0 + c.1 = lt_from at (c.0 + c.1) e in
        let h : at + (c.0 - at) ≤ c.0 + c.1 = omega arith in
        subst (λ n. at + (c.0 - at) ≤ n) (sym (ap (λ b. if b then c.0 + c.1 else at) e)) h
    by false e =
        let l : c.0 + c.1 ≤ at = grind (arith, nat_tests) in
        let h : at + (c.0 - at) ≤ at = omega arith in
        subst (λ n. at + (c.0 - at) ≤ n) (sym (ap (λ b. if b then c.0 + c.1 else at) e)) h

-- the gaps are in order
gap_order : (low at end : ℕ) (chunks : List (ℕ × ℕ)) → low ≤ at → end ≤ 2 ^ 64 → is_chunk_past end chunks ≡ false → is_in_order_after low (not_empty (gaps_from at end chunks)) ≡ true
gap_order low at end [] l small e = one_more low (at, end - at) [] l (λ h. omega arith) refl
gap_order low at end (c ∷ chunks) l small e =
    let p = or_parts (nat_lt end (c.0 + c.1)) (is_chunk_past end chunks) e in
    one_more low (at, c.0 - at) (not_empty (gaps_from (end_of at c) end chunks)) l (λ h. small_gap p.0 h)
    (gap_order (at + (c.0 - at)) (end_of at c) end chunks (ends_behind at c) small p.1)
  where
    small_gap : nat_lt end (c.0 + c.1) ≡ false → 0 < c.0 - at → at + (c.0 - at) ≤ 2 ^ 64
    small_gap e h = let k : c.0 + c.1 ≤ end = grind (arith, nat_tests) in omega arith

pub gaps_order : (end : ℕ) (chunks : List (ℕ × ℕ)) → end ≤ 2 ^ 64 → is_chunk_past end chunks ≡ false → is_in_order (not_empty (gaps_from 0 end chunks)) ≡ true
gaps_order end chunks small e = gap_order 0 0 end chunks (omega arith) small e

uncovered : (a u i : Bool) → (not a && (not u || i)) ≡ not (a || (u && not i))
uncovered true u i = refl
uncovered false true true = refl
uncovered false true false = refl
uncovered false false i = refl

bytes_covered : (start : ℕ) (t : Ty) (chunks : List (ℕ × ℕ)) (len : ℕ)
    → is_covered start t chunks len ≡ not (is_some_below (λ at. is_in_part start (is_used t) at && not (is_in_chunk chunks at)) (start + len))
bytes_covered start t chunks zero =
    sym (ap not (none_below (λ at. is_in_part start (is_used t) at && not (is_in_chunk chunks at)) (start + 0)
    (λ k l. and_left (is_in_part start (is_used t) k) (not (is_in_chunk chunks k)) (and_left (nat_le start k) (is_used t (k - start)) (before k (omega arith))))))
  where
    before : (k : ℕ) → k < start → nat_le start k ≡ false
    before k l = grind (arith, nat_tests)
bytes_covered start t chunks (suc n) =
    ap (λ b. b && (not (is_used t n) || is_in_chunk chunks (start + n))) (bytes_covered start t chunks n)
    ∙ uncovered (is_some_below (λ at. is_in_part start (is_used t) at && not (is_in_chunk chunks at)) (start + n)) (is_used t n) (is_in_chunk chunks (start + n))
    ∙ ap (λ b. not (is_some_below (λ at. is_in_part start (is_used t) at && not (is_in_chunk chunks at)) (start + n) || (b && not (is_in_chunk chunks (start + n))))) (sym here)
    ∙ ap (λ m. not (is_some_below (λ at. is_in_part start (is_used t) at && not (is_in_chunk chunks at)) m)) next
  where
    next : suc (start + n) ≡ start + suc n
    next = omega arith

    back : (start + n) - start ≡ n
    back = omega arith

    here : is_in_part start (is_used t) (start + n) ≡ is_used t n
    here = (λ i. le_test start (start + n) (omega arith) i && is_used t (back i))

-- a part is covered where it meets no gap
covered_met : (start : ℕ) (t : Ty) (chunks gaps : List (ℕ × ℕ)) (len : ℕ) → ((k : ℕ) → k < start + len → is_in_chunk gaps k ≡ not (is_in_chunk chunks k))
    → not (is_met (is_used t) start (start + len) gaps) ≡ is_covered start t chunks len
unfolding is_met
covered_met start t chunks gaps len apart =
    ap not (same_tests (λ at. is_in_part start (is_used t) at && is_in_chunk gaps at) (λ at. is_in_part start (is_used t) at && not (is_in_chunk chunks at)) (start + len)
    (λ k l. ap (λ b. is_in_part start (is_used t) k && b) (apart k l)))
    ∙ sym (bytes_covered start t chunks len)

-- fields are covered where they meet no gap
pub outside_gaps : (end : ℕ) (fields : List (ℕ × Ty)) (chunks gaps : List (ℕ × ℕ)) → ((k : ℕ) → k < end → is_in_chunk gaps k ≡ not (is_in_chunk chunks k)) → is_past end fields ≡ false
    → are_outside fields gaps ≡ are_covered fields chunks
outside_gaps end [] chunks gaps apart e = refl
outside_gaps end (f ∷ fields) chunks gaps apart e =
    let p = or_parts (nat_lt end (f.0 + size_of f.1)) (is_past end fields) e in
    (λ i. covered_met f.0 f.1 chunks gaps (size_of f.1) (λ k l. apart k (inside k p.0 l)) i && outside_gaps end fields chunks gaps apart p.1 i)
  where
    inside : (k : ℕ) → nat_lt end (f.0 + size_of f.1) ≡ false → k < f.0 + size_of f.1 → k < end
    inside k e l = grind (arith, nat_tests)

-- the same of the gaps themselves
pub outside_covered : (end : ℕ) (fields : List (ℕ × Ty)) (chunks gaps : List (ℕ × ℕ)) → gaps ≡ not_empty (gaps_from 0 end chunks) → is_past end fields ≡ false → is_rising chunks ≡ true
    → are_outside fields gaps ≡ are_covered fields chunks
outside_covered end fields chunks gaps same inside rising =
    ap (are_outside fields) same ∙ outside_gaps end fields chunks (not_empty (gaps_from 0 end chunks)) (λ k l. in_gaps end k chunks l rising) inside

pub ruleset gap_laws = (gaps_order, outside_covered)
