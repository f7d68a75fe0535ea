-- A search among allocations in order finds the one that holds an address.
use Rattle.mr_labels.proofs.Common.{◌≡◌, ℕ, zero, suc, ◌+◌, ◌≤◌, arith, List, [], ◌∷◌, drop, refl, sym, ap, ◌∙◌, subst, nat_le, Option, None, Some, filter, Allocation, first_holding, has_bytes, is_apart, found_at}
use Rattle.std.proofs.Common.{◌<◌, Bool, true, false, length, get_or}
use Rattle.std.proofs.lemmas.Bool.Decides.{nat_tests}
use Rattle.std.proofs.lemmas.List.Sorted.{Contains-permutation, IsNonDecreasingBy-from_all_adjacent, IsPermutation-sym}
use Rattle.std.specs.Prelude.{◌&&◌, not, nat_lt, if◌then◌else◌, cond}
use Rattle.std.specs.List.{Contains}
use Rattle.std.specs.List.Sorted.{IsNonDecreasingBy, IsPermutation}
use Rattle.mr_labels.specs.Index.{IsIndex, rows_past}
use Rattle.mr_labels.specs.Table.{holds}

-- ---- numbers

-- an address behind the end isn't held, nor one in front of the start, nor any where there is no byte
past_end : (addr start size : ℕ) → start + size ≤ addr → (not (nat_lt addr start) && nat_lt addr (start + size)) ≡ false
past_end addr start size h = grind (arith, nat_tests)

before_start : (addr start size : ℕ) → addr < start → (not (nat_lt addr start) && nat_lt addr (start + size)) ≡ false
before_start addr start size h = grind (arith, nat_tests)

no_byte : (addr start size : ℕ) → nat_lt 0 size ≡ false → (not (nat_lt addr start) && nat_lt addr (start + size)) ≡ false
no_byte addr start size h = grind (arith, nat_tests)

-- an address in front of the end that isn't held lies in front of the start
in_front : (addr start size : ℕ) → addr < start + size → (not (nat_lt addr start) && nat_lt addr (start + size)) ≡ false
    → addr < start
in_front addr start size h e = grind (arith, nat_tests)

at_most : (a b : ℕ) → nat_le a b ≡ true → a ≤ b
at_most a b e = grind (arith, nat_tests)

above : (a b : ℕ) → nat_le a b ≡ false → b < a
above a b e = grind (arith, nat_tests)

both : (a b : Bool) → (a && b) ≡ true → (a ≡ true) × (b ≡ true)
both true b e = (refl, e)
both false b e = absurd (cc)

-- ---- in order and apart

module _ (low : ℕ) (row : Allocation) (rows : List Allocation) (apart : is_apart low (row ∷ rows) ≡ true) where
  starts : low ≤ row.start
  starts = at_most low row.start (both (nat_le low row.start) (is_apart (row.start + row.size) rows) apart).0

  others : is_apart (row.start + row.size) rows ≡ true
  others = (both (nat_le low row.start) (is_apart (row.start + row.size) rows) apart).1

-- each ends where the next one ends, or before
next_ends : (low : ℕ) (rows : List Allocation) → is_apart low rows ≡ true → (k : ℕ) (d : Allocation) → k + 1 < length rows
    → (get_or rows k d).start + (get_or rows k d).size ≤ (get_or rows (k + 1) d).start + (get_or rows (k + 1) d).size
next_ends low [] e k d h = absurd (omega arith)
next_ends low (r ∷ []) e k d h = absurd (omega arith)
next_ends low (r ∷ s ∷ rows) e zero d h =
    let behind : r.start + r.size ≤ s.start = starts (r.start + r.size) s rows (others low r (s ∷ rows) e) in
    omega arith
next_ends low (r ∷ s ∷ rows) e (suc k) d h =
    let same : suc k + 1 ≡ suc (k + 1) = omega arith in
    subst (λ n. (get_or (s ∷ rows) k d).start + (get_or (s ∷ rows) k d).size
    ≤ (get_or (r ∷ s ∷ rows) n d).start + (get_or (r ∷ s ∷ rows) n d).size) (sym same)
    (next_ends (r.start + r.size) (s ∷ rows) (others low r (s ∷ rows) e) k d (omega arith))

-- the ends don't fall
pub ends_rise : (low : ℕ) (rows : List Allocation) → is_apart low rows ≡ true
    → IsNonDecreasingBy (λ (r : Allocation). r.start + r.size) rows
ends_rise low rows e = IsNonDecreasingBy-from_all_adjacent (λ (r : Allocation). r.start + r.size) rows (next_ends low rows e)

-- none holds an address in front of all
none_before : (addr low : ℕ) (rows : List Allocation) → is_apart low rows ≡ true → addr < low → found_at addr rows ≡ None
none_before addr low [] e h = refl
none_before addr low (r ∷ rows) e h =
    let start = starts low r rows e in
    let not_here = before_start addr r.start r.size (omega arith) in
    ap (λ b. if b then Some r else found_at addr rows) not_here
    ∙ none_before addr (r.start + r.size) rows (others low r rows e) (omega arith)

-- the one that holds an address is the first that ends behind it
pub found_past : (addr low : ℕ) (rows : List Allocation) → is_apart low rows ≡ true
    → first_holding addr (rows_past addr rows) ≡ found_at addr rows
found_past addr low [] e = refl
found_past addr low (r ∷ rows) e =
    by_end (nat_le (r.start + r.size) addr) refl (found_past addr (r.start + r.size) rows (others low r rows e))
  where
    by_holds : (b : Bool) → holds addr r ≡ b → addr < r.start + r.size
        → (if b then Some r else None) ≡ (if b then Some r else found_at addr rows)
    by_holds true is h = refl
    by_holds false is h =
        let front = in_front addr r.start r.size h is in
        sym (none_before addr (r.start + r.size) rows (others low r rows e) (omega arith))

    by_end : (b : Bool) → nat_le (r.start + r.size) addr ≡ b → first_holding addr (rows_past addr rows) ≡ found_at addr rows
        → first_holding addr (if b then rows_past addr rows else r ∷ rows) ≡ found_at addr (r ∷ rows)
    by_end true is later =
        later
        ∙ sym (ap (λ b. if b then Some r else found_at addr rows) (past_end addr r.start r.size (at_most (r.start + r.size) addr is)))
    by_end false is later = by_holds (holds addr r) refl (above (r.start + r.size) addr is)

-- any that holds an address is found
only_one : (addr low : ℕ) (rows : List Allocation) → is_apart low rows ≡ true → (x : Allocation) (k : ℕ) → k < length rows
    → get_or rows k x ≡ x → holds addr x ≡ true → found_at addr rows ≡ Some x
only_one addr low [] e x k h is holding = absurd (omega arith)
only_one addr low (r ∷ rows) e x zero h is holding =
    ap (λ b. if b then Some r else found_at addr rows) (ap (holds addr) is ∙ holding) ∙ ap Some is
only_one addr low (r ∷ rows) e x (suc k) h is holding =
    let later = only_one addr (r.start + r.size) rows (others low r rows e) x k (omega arith) is holding in
    by_end (nat_le (r.start + r.size) addr) refl later
  where
    by_end : (b : Bool) → nat_le (r.start + r.size) addr ≡ b → found_at addr rows ≡ Some x
        → found_at addr (r ∷ rows) ≡ Some x
    by_end true past later =
        ap (λ b. if b then Some r else found_at addr rows) (past_end addr r.start r.size (at_most (r.start + r.size) addr past)) ∙ later
    by_end false past later =
        let none = none_before addr (r.start + r.size) rows (others low r rows e) (above (r.start + r.size) addr past) in
        absurd (cc)

-- ---- what is found among any allocations

found_there : (addr : ℕ) (rows : List Allocation) (x : Allocation) → found_at addr rows ≡ Some x
    → Contains rows x × (holds addr x ≡ true)
found_there addr [] x e = absurd (cc)
found_there addr (r ∷ rows) x e = by_holds (holds addr r) refl e (found_there addr rows x)
  where
    later : Contains rows x × (holds addr x ≡ true) → Contains (r ∷ rows) x × (holds addr x ≡ true)
    later ((k, within, is), holding) = ((suc k, omega arith, is), holding)

    by_holds : (b : Bool) → holds addr r ≡ b → (if b then Some r else found_at addr rows) ≡ Some x
        → (found_at addr rows ≡ Some x → Contains rows x × (holds addr x ≡ true))
        → Contains (r ∷ rows) x × (holds addr x ≡ true)
    by_holds true is e there = let same : r ≡ x = cc in ((0, omega arith, same), ap (holds addr) (sym same) ∙ is)
    by_holds false is e there = later (there e)

found_nowhere : (addr : ℕ) (rows : List Allocation) → found_at addr rows ≡ None → (x : Allocation) (k : ℕ) → k < length rows
    → get_or rows k x ≡ x → holds addr x ≡ false
found_nowhere addr [] e x k h is = absurd (omega arith)
found_nowhere addr (r ∷ rows) e x zero h is = by_holds (holds addr r) refl e
  where
    by_holds : (b : Bool) → holds addr r ≡ b → (if b then Some r else found_at addr rows) ≡ None → holds addr x ≡ false
    by_holds true holding e = absurd (cc)
    by_holds false holding e = ap (holds addr) (sym is) ∙ holding
found_nowhere addr (r ∷ rows) e x (suc k) h is =
    by_holds (holds addr r) refl e (λ none. found_nowhere addr rows none x k (omega arith) is)
  where
    by_holds : (b : Bool) → holds addr r ≡ b → (if b then Some r else found_at addr rows) ≡ None
        → (found_at addr rows ≡ None → holds addr x ≡ false) → holds addr x ≡ false
    by_holds true holding e later = absurd (cc)
    by_holds false holding e later = later e

-- those without bytes hold nothing
found_with_bytes : (addr : ℕ) (rows : List Allocation) → found_at addr (filter has_bytes rows) ≡ found_at addr rows
found_with_bytes addr [] = refl
found_with_bytes addr (r ∷ rows) = by_bytes (has_bytes r) refl (found_with_bytes addr rows)
  where
    by_bytes : (b : Bool) → has_bytes r ≡ b → found_at addr (filter has_bytes rows) ≡ found_at addr rows
        → found_at addr (cond b (r ∷ filter has_bytes rows) (filter has_bytes rows)) ≡ found_at addr (r ∷ rows)
    by_bytes true is later = ap (λ (o : Option Allocation). if holds addr r then Some r else o) later
    by_bytes false is later =
        later
        ∙ sym (ap (λ b. if b then Some r else found_at addr rows) (no_byte addr r.start r.size is))

-- the same in another order, where the allocations are apart
found_moved : (addr : ℕ) (some index : List Allocation) → IsPermutation some index → is_apart 0 index ≡ true
    → found_at addr index ≡ found_at addr some
found_moved addr some index moved apart = by_some (found_at addr some) refl
  where
    by_index : (o : Option Allocation) → found_at addr index ≡ o → found_at addr some ≡ None → o ≡ None
    by_index None is none = refl
    by_index (Some x) is none =
        let there = found_there addr index x is in
        let back = Contains-permutation index some x (IsPermutation-sym some index moved) there.0 in
        let not_held = found_nowhere addr some none x back.0 back.1 back.2 in
        let held = there.1 in
        absurd (cc)

    by_some : (o : Option Allocation) → found_at addr some ≡ o → found_at addr index ≡ found_at addr some
    by_some None is = by_index (found_at addr index) refl is ∙ sym is
    by_some (Some x) is =
        let there = found_there addr some x is in
        let at = Contains-permutation some index x moved there.0 in
        only_one addr 0 index apart x at.0 at.1 at.2 there.1 ∙ sym is

-- WHAT IS FOUND in an index is what is found among all
pub found_in_index : (addr : ℕ) (rows index : List Allocation) → IsIndex rows index → found_at addr index ≡ found_at addr rows
found_in_index addr rows index h =
    found_moved addr (filter has_bytes rows) index h.moved h.apart ∙ found_with_bytes addr rows

-- ---- the search

-- the first that ends behind an address, as a search finds it
pub past_point : (addr : ℕ) (rows : List Allocation) (i : ℕ) → i ≤ length rows
    → ((k : ℕ) (d : Allocation) → k < i → nat_le ((get_or rows k d).start + (get_or rows k d).size) addr ≡ true)
    → ((k : ℕ) (d : Allocation) → i ≤ k → k < length rows
    → nat_le ((get_or rows k d).start + (get_or rows k d).size) addr ≡ false)
    → drop i rows ≡ rows_past addr rows
past_point addr [] zero h before behind = refl
past_point addr [] (suc i) h before behind = refl
past_point addr (r ∷ rows) zero h before behind =
    sym (ap (λ b. if b then rows_past addr rows else r ∷ rows) (behind 0 r (omega arith) (omega arith)))
past_point addr (r ∷ rows) (suc i) h before behind =
    past_point addr rows i (omega arith) (λ k d l. before (suc k) d (omega arith))
    (λ k d l m. behind (suc k) d (omega arith) (omega arith))
    ∙ sym (ap (λ b. if b then rows_past addr rows else r ∷ rows) (before 0 r (omega arith)))
