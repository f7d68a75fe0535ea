-- A row of pieces put in place of others: step by step, and what it makes of the bytes.
use Rattle.mr_runs.proofs.Common.{◌≡◌, ℕ, ◌+◌, ◌-◌, ◌<◌, ◌≤◌, ◌⊎◌, Bool, true, false, cond, List, [], ◌∷◌, ◌++◌, length, take, drop, Some, None, Option, refl, sym, ap, ◌∙◌, subst, inl, inr, ⊎_elim, arith, append_assoc, length-append, length-drop, length-take, nat_cmp, OnOk, Result, Ok, Err, is_at, IsStrictlySortedBy, keys_of, values_of, cases_eq, cases_lt, take-append-drop, AbstractByte, Mark, begins, last_mark, first_mark, staked, unstaked, IsBegun, IsEnded, IsExchanged, IsSettled, SeenPiece, piece_len, AreMaximal, bytes_in, found, total_len, IsPlaced, IsReplaced, IsTiled, with_range_replaced}
use Rattle.std.proofs.Common.{◌||◌}
use Rattle.std.specs.Prelude.{IsSome, eqb}
use Rattle.std.proofs.lemmas.Bool.{ne_eqb, or_parts}
use Rattle.std.proofs.lemmas.List.Folds.{list_any-append}
use Rattle.mr_runs.specs.Exchanged.{IsRow}
use Rattle.mr_runs.proofs.FindLaws.{maximal_rest, placed_rest, tiled_as, tiled_front}
use Rattle.mr_runs.proofs.MaximalLaws.{apart_with_first, apart_with_last, first_mark-append, maximal_append, maximal_back, maximal_front, maximal_seam, AreApart}
use Rattle.mr_runs.proofs.PlacedLaws.{bytes_in-append, length-bytes_in, none_before, none_behind, placed_append, placed_at, placed_back, placed_front, same_as_placed, total_len-append, values_of-append}
use Rattle.mr_runs.proofs.RangeLaws.{length-with_range_replaced}
use Rattle.mr_runs.proofs.Positions.{at_other, at_same, found_before, found_behind, found_here, found_later}

-- two facts where a call succeeded
pub on_ok_both : {T E P Q R : Type 0} (r : Result T E) → (P → Q → R) → OnOk r P → OnOk r Q → OnOk r R
on_ok_both (Ok x) f p q = f p q
on_ok_both (Err e) f p q = tt

-- ---- positions that are taken and given back

-- no piece is empty
pub filled_found : (es : List (ℕ × SeenPiece)) (q : ℕ) → AreMaximal (values_of es) → unstaked (found q es) ≡ found q es
filled_found [] q h = refl
filled_found (e ∷ es) q h = by_test (is_at (nat_cmp q) e.0) (filled_found es q h.2)
  where
    not_empty : 0 < piece_len e.1 → eqb (piece_len e.1) 0 ≡ false
    not_empty filled = ne_eqb (piece_len e.1) 0 (λ none. omega arith)

    by_test : (b : Bool) → unstaked (found q es) ≡ found q es → unstaked (cond b (Some e.1) (found q es)) ≡ cond b (Some e.1) (found q es)
    by_test true rest = ap (λ b. cond b None (Some e.1)) (not_empty h.0)
    by_test false rest = rest

-- a position that is taken is given back as it was
unstaked_staked : (o : Option SeenPiece) → unstaked o ≡ o → unstaked (staked o) ≡ o
unstaked_staked None is = refl
unstaked_staked (Some p) is = is

-- what begins in a first part of a row begins in it
begins_part : (row : List (ℕ × SeenPiece)) (i q : ℕ) → begins q row ≡ false → begins q (take i row) ≡ false
begins_part row i q none =
    (or_parts (begins q (take i row)) (begins q (drop i row))
    (sym (list_any-append (λ (x : ℕ × SeenPiece). is_at (nat_cmp x.0) q) (take i row) (drop i row)) ∙ ap (begins q) (take-append-drop i row) ∙ none)).0

-- some positions of a row that were taken, and all given back: what is found is what was
pub given_back : (old now new row : List (ℕ × SeenPiece)) (i q : ℕ) → unstaked (found q old) ≡ found q old
    → found q now ≡ cond (begins q (take i row)) (staked (found q old)) (found q old)
    → found q new ≡ cond (begins q row) (unstaked (found q now)) (found q now)
    → found q new ≡ found q old
given_back old now new row i q filled taken given = by_test (begins q row) refl given
  where
    by_taken : (b : Bool) → unstaked (cond b (staked (found q old)) (found q old)) ≡ found q old
    by_taken true = unstaked_staked (found q old) filled
    by_taken false = filled

    by_test : (b : Bool) → begins q row ≡ b → found q new ≡ cond b (unstaked (found q now)) (found q now) → found q new ≡ found q old
    by_test true is e = e ∙ ap (λ (o : Option SeenPiece). unstaked o) taken ∙ by_taken (begins q (take i row))
    by_test false is e = e ∙ taken ∙ ap (λ b. cond b (staked (found q old)) (found q old)) (begins_part row i q is)

-- ---- a row, put from right to left

begins_here : (xs : List (ℕ × SeenPiece)) (e : ℕ × SeenPiece) (ys : List (ℕ × SeenPiece)) → begins e.0 (xs ++ e ∷ ys) ≡ true
begins_here [] e ys = ap (λ b. b || begins e.0 ys) (at_same e.0 e.0 refl)
begins_here (x ∷ xs) e ys = ap (λ b. is_at (nat_cmp x.0) e.0 || b) (begins_here xs e ys) ∙ or_true (is_at (nat_cmp x.0) e.0)
  where
    or_true : (b : Bool) → (b || true) ≡ true
    or_true true = refl
    or_true false = refl

-- outside a placed row nothing of it begins
begins_before : (row : List (ℕ × SeenPiece)) (at q : ℕ) → IsPlaced row at → q < at → begins q row ≡ false
begins_before [] at q h lt = refl
begins_before (e ∷ row) at q h lt =
    let begin : e.0 ≡ at = h.0 in
    ap (λ b. b || begins q row) (at_other e.0 q (λ same. omega arith)) ∙ begins_before row (at + piece_len e.1) q h.1 (omega arith)

begins_behind : (row : List (ℕ × SeenPiece)) (at q : ℕ) → IsPlaced row at → AreMaximal (values_of row) → at + total_len row ≤ q → begins q row ≡ false
begins_behind [] at q h m le = refl
begins_behind (e ∷ row) at q h m le =
    let begin : e.0 ≡ at = h.0 in
    let filled : 0 < piece_len e.1 = m.0 in
    ap (λ b. b || begins q row) (at_other e.0 q (λ same. omega arith)) ∙ begins_behind row (at + piece_len e.1) q h.1 m.2 (omega arith)

-- the piece that is put next, in the row
record Next (row rest : List (ℕ × SeenPiece)) (at : ℕ) (p : SeenPiece) (last end : ℕ) : Type 0 where
  at_is : at ≡ (end - total_len row) + total_len rest
  last_is : last ≡ at + piece_len p
  filled : 0 < piece_len p
  here : found at row ≡ Some p
  between : (q : ℕ) → at < q → q < last → found q row ≡ None
  taken : begins at row ≡ true
  below : at < end

next : (row rest : List (ℕ × SeenPiece)) (at : ℕ) (p : SeenPiece) (old now : List (ℕ × SeenPiece)) (last end : ℕ) → IsRow row end
    → IsSettled row (rest ++ (at, p) ∷ []) old now last end → Next row rest at p last end
next row rest at p old now last end r s =
    let begin = end - total_len row in
    let fits : total_len row ≤ end = r.fits in
    let P : List (ℕ × SeenPiece) → Type 0 = λ es. IsPlaced es begin × AreMaximal (values_of es) in
    let parts : row ≡ rest ++ (at, p) ∷ s.put = s.is ∙ append_assoc rest ((at, p) ∷ []) s.put in
    let both = subst P parts (r.placed, r.maximal) in
    let Q : List SeenPiece → Type 0 = λ ps. AreMaximal ps in
    let marks = subst Q (values_of-append rest ((at, p) ∷ s.put)) both.1 in
    let rest_placed = placed_front rest ((at, p) ∷ s.put) begin both.0 in
    let rest_maximal = maximal_front (values_of rest) (p ∷ values_of s.put) marks in
    let here_placed = placed_back rest ((at, p) ∷ s.put) begin both.0 in
    let here_maximal = maximal_back (values_of rest) (p ∷ values_of s.put) marks in
    let at_is : at ≡ begin + total_len rest = here_placed.0 in
    let filled : 0 < piece_len p = here_maximal.0 in
    let last_is : last ≡ at + piece_len p = omega (arith, s.last_is, total_len-append rest ((at, p) ∷ [])) in
    record {
      at_is = at_is;
      last_is = last_is;
      filled = filled;
      here =
          ap (found at) parts
          ∙ found_behind rest ((at, p) ∷ s.put) at (none_behind rest begin at rest_placed rest_maximal (omega arith))
          ∙ found_here at (at, p) s.put refl;
      between = λ q gt lt.
          ap (found q) parts
          ∙ found_behind rest ((at, p) ∷ s.put) q (none_behind rest begin q rest_placed rest_maximal (omega arith))
          ∙ found_later q (at, p) s.put (λ same. omega arith)
          ∙ none_before s.put (begin + total_len rest + piece_len p) q here_placed.1 (omega arith);
      taken = ap (begins at) parts ∙ begins_here rest (at, p) s.put;
      below = omega (arith, ap total_len parts, total_len-append rest ((at, p) ∷ s.put));
    }

-- the run that is put next begins before the last one that was put
pub next_below : (row rest : List (ℕ × SeenPiece)) (at : ℕ) (p : SeenPiece) (old now : List (ℕ × SeenPiece)) (last end : ℕ) → IsRow row end
    → IsSettled row (rest ++ (at, p) ∷ []) old now last end → (at < last) × (at < end)
next_below row rest at p old now last end r s =
    let n = next row rest at p old now last end r s in
    let filled : 0 < piece_len p = n.filled in
    let last_is : last ≡ at + piece_len p = n.last_is in
    (omega arith, n.below)

-- its position is still taken
pub next_taken : (row rest : List (ℕ × SeenPiece)) (at : ℕ) (p : SeenPiece) (old now cleared : List (ℕ × SeenPiece)) (last end : ℕ) → IsRow row end
    → IsSettled row (rest ++ (at, p) ∷ []) old now last end → ((q : ℕ) → begins q row ≡ true → IsSome (found q old))
    → ((q : ℕ) → q < at + 1 → found q cleared ≡ found q now) → IsSome (found at cleared)
next_taken row rest at p old now cleared last end r s taken same =
    let n = next row rest at p old now last end r s in
    let filled : 0 < piece_len p = n.filled in
    let last_is : last ≡ at + piece_len p = n.last_is in
    let P : Option SeenPiece → Type 0 = λ o. IsSome o in
    subst P (sym (same at (omega arith) ∙ s.before at (omega arith))) (taken at n.taken)

-- one piece more is put, and all others up to the last one are gone
pub settled_step : (row rest : List (ℕ × SeenPiece)) (at : ℕ) (p : SeenPiece) (old now cleared new : List (ℕ × SeenPiece)) (last end : ℕ) → IsRow row end
    → IsSettled row (rest ++ (at, p) ∷ []) old now last end
    → ((q : ℕ) → q < at + 1 → found q cleared ≡ found q now)
    → ((q : ℕ) → at + 1 ≤ q → q < last → found q cleared ≡ None)
    → ((q : ℕ) → last ≤ q → found q cleared ≡ found q now)
    → ((q : ℕ) → found q new ≡ cond (is_at (nat_cmp at) q) (Some p) (found q cleared))
    → IsSettled row rest old new at end
settled_step row rest at p old now cleared new last end r s before gone behind put =
    let n = next row rest at p old now last end r s in
    let filled : 0 < piece_len p = n.filled in
    let last_is : last ≡ at + piece_len p = n.last_is in
    record {
      put = (at, p) ∷ s.put;
      is = s.is ∙ append_assoc rest ((at, p) ∷ []) s.put;
      last_is = n.at_is;
      before = λ q lt. kept q (λ same. omega arith) ∙ before q (omega arith) ∙ s.before q (omega arith);
      within = λ q ge lt. ⊎_elim (λ same. at_it q same) (λ other. past_it q ge lt other) (cases_eq at q);
      behind = λ q ge. let below : at < end = n.below in kept q (λ same. omega arith) ∙ after q ge;
    }
  where
    kept : (q : ℕ) → (at ≡ q → ⊥) → found q new ≡ found q cleared
    kept q other = put q ∙ ap (λ b. cond b (Some p) (found q cleared)) (at_other at q other)

    after : (q : ℕ) → end ≤ q → found q cleared ≡ found q old
    after q ge =
        let far : last ≤ q = omega (arith, s.last_is, ap total_len s.is, total_len-append (rest ++ (at, p) ∷ []) s.put, r.fits) in
        behind q far ∙ s.behind q ge

    at_it : (q : ℕ) → at ≡ q → found q new ≡ found q row
    at_it q same =
        let n = next row rest at p old now last end r s in
        put q
        ∙ ap (λ b. cond b (Some p) (found q cleared)) (at_same at q same)
        ∙ sym n.here
        ∙ ap (λ k. found k row) same

    past_it : (q : ℕ) → at ≤ q → q < end → (at ≡ q → ⊥) → found q new ≡ found q row
    past_it q ge lt other =
        let n = next row rest at p old now last end r s in
        let more : at < q = omega arith in
        kept q other
        ∙ ⊎_elim (λ l. gone q (omega arith) l ∙ sym (n.between q more l)) (λ g. behind q g ∙ s.within q g lt) (cases_lt q last)

-- the positions of the row were taken before: elsewhere that says nothing
pub exchanged_from_staked : (row old taken new : List (ℕ × SeenPiece)) (end : ℕ) → IsRow row end
    → ((q : ℕ) → found q taken ≡ cond (begins q row) (staked (found q old)) (found q old)) → IsExchanged row taken new end → IsExchanged row old new end
exchanged_from_staked row old taken new end r staked_is x =
    let fits : total_len row ≤ end = r.fits in
    record {
      before = λ q lt. x.before q lt ∙ untaken q (begins_before row (end - total_len row) q r.placed lt);
      within = x.within;
      behind = λ q ge. x.behind q ge ∙ untaken q (begins_behind row (end - total_len row) q r.placed r.maximal (omega arith));
    }
  where
    untaken : (q : ℕ) → begins q row ≡ false → found q taken ≡ found q old
    untaken q none = staked_is q ∙ ap (λ b. cond b (staked (found q old)) (found q old)) none

-- ---- the bytes

-- a row that is begun and ended stands where the pieces end
pub row_from_begun : (es old row : List (ℕ × SeenPiece)) (done : List AbstractByte) (to end : ℕ) → IsBegun es old done → length done ≡ to → (x : IsEnded es old row to end) → to ≤ total_len es → IsRow row end
row_from_begun es old row done to end b ends x inside =
    let grown = x.grown es done b ends in
    let all : total_len grown.before + total_len row ≡ end = ends_at grown in
    record {
      fits = omega arith;
      placed = placed_at row (total_len grown.before) (end - total_len row) (omega arith) grown.placed;
      maximal = grown.maximal;
    }
  where
    ends_at : (g : IsBegun es row (done ++ x.more)) → total_len g.before + total_len row ≡ end
    ends_at g =
        omega (
          arith,
          ap length g.bytes_are,
          length-append (bytes_in g.before) (bytes_in row),
          length-bytes_in g.before,
          length-bytes_in row,
          length-append done x.more,
          ap length x.bytes_are,
          length-append x.more (bytes_in x.behind),
          length-bytes_in x.behind,
          length-drop to (bytes_in es),
          length-bytes_in es,
          ap total_len x.is,
          total_len-append x.front x.behind,
          x.end_is,
        )

-- pieces before a row, the row, and pieces behind it, where it meets them as those did that stood there
module _ (es row before rest front behind : List (ℕ × SeenPiece)) (t : IsTiled es) (is_before : es ≡ before ++ rest) (is_behind : es ≡ front ++ behind)
    (placed : IsPlaced row (total_len before)) (maximal : AreMaximal (values_of row)) (ends : total_len before + total_len row ≡ total_len front)
    (meets_before : (before ≡ []) ⊎ ((m : Mark) × (first_mark (values_of row) ≡ Some m) × (first_mark (values_of rest) ≡ Some m)))
    (meets_behind : (behind ≡ []) ⊎ ((m : Mark) × (last_mark (values_of row) ≡ Some m) × (last_mark (values_of front) ≡ Some m))) where
  tiled_before : IsTiled (before ++ rest)
  tiled_before = tiled_as es (before ++ rest) is_before t

  tiled_behind : IsTiled (front ++ behind)
  tiled_behind = tiled_as es (front ++ behind) is_behind t

  values_apart : (xs ys : List (ℕ × SeenPiece)) → IsTiled (xs ++ ys) → AreApart (values_of xs) (values_of ys)
  values_apart xs ys h = let P : List SeenPiece → Type 0 = λ ps. AreMaximal ps in maximal_seam (values_of xs) (values_of ys) (subst P (values_of-append xs ys) h.maximal)

  apart_before : (before ≡ []) ⊎ ((m : Mark) × (first_mark (values_of row) ≡ Some m) × (first_mark (values_of rest) ≡ Some m)) → AreApart (values_of before) (values_of row ++ values_of behind)
  apart_before (inl none) = λ m last first. let no : None ≡ Some m = sym (ap (λ (xs : List (ℕ × SeenPiece)). last_mark (values_of xs)) none) ∙ last in absurd (cc)
  apart_before (inr s) =
      apart_with_first (values_of before) (values_of rest) (values_of row ++ values_of behind) s.0 (values_apart before rest tiled_before) s.2 (first_mark-append (values_of row) (values_of behind) s.0 s.1)

  apart_behind : (behind ≡ []) ⊎ ((m : Mark) × (last_mark (values_of row) ≡ Some m) × (last_mark (values_of front) ≡ Some m)) → AreApart (values_of row) (values_of behind)
  apart_behind (inl none) = λ m last first. let no : None ≡ Some m = sym (ap (λ (xs : List (ℕ × SeenPiece)). first_mark (values_of xs)) none) ∙ first in absurd (cc)
  apart_behind (inr s) = apart_with_last (values_of front) (values_of row) (values_of behind) s.0 (values_apart front behind tiled_behind) s.2 s.1

  whole_values : values_of (before ++ (row ++ behind)) ≡ values_of before ++ (values_of row ++ values_of behind)
  whole_values = values_of-append before (row ++ behind) ∙ ap (λ (ps : List SeenPiece). values_of before ++ ps) (values_of-append row behind)

  tiled_joined : IsTiled (before ++ (row ++ behind))
  tiled_joined = record {
    placed =
        placed_append before (row ++ behind) 0 (tiled_front before rest tiled_before).placed
        (placed_at (row ++ behind) (total_len before) (0 + total_len before) (omega arith)
        (placed_append row behind (total_len before) placed (placed_at behind (total_len front) (total_len before + total_len row) (sym ends) (placed_rest front behind tiled_behind))));
    maximal =
        let P : List SeenPiece → Type 0 = λ ps. AreMaximal ps in
        subst P (sym whole_values)
        (maximal_append (values_of before) (values_of row ++ values_of behind) (tiled_front before rest tiled_before).maximal (apart_before meets_before)
        (maximal_append (values_of row) (values_of behind) maximal (apart_behind meets_behind) (maximal_rest front behind tiled_behind)));
  }

  -- what is found before, in and behind the row
  found_of_before : (q : ℕ) → q < total_len before → found q (before ++ (row ++ behind)) ≡ found q es
  found_of_before q lt =
      found_before before (row ++ behind) q (found_before row behind q (none_before behind (total_len front) q (placed_rest front behind tiled_behind) (omega arith)) ∙ none_before row (total_len before) q placed lt)
      ∙ sym (found_before before rest q (none_before rest (total_len before) q (placed_rest before rest tiled_before) lt))
      ∙ ap (found q) (sym is_before)

  no_before : (q : ℕ) → total_len before ≤ q → found q before ≡ None
  no_before q ge =
      let front = tiled_front before rest tiled_before in
      none_behind before 0 q front.placed front.maximal (omega arith)

  found_of_row : (q : ℕ) → total_len before ≤ q → q < total_len front → found q (before ++ (row ++ behind)) ≡ found q row
  found_of_row q ge lt =
      found_behind before (row ++ behind) q (no_before q ge)
      ∙ found_before row behind q (none_before behind (total_len front) q (placed_rest front behind tiled_behind) lt)

  found_of_behind : (q : ℕ) → total_len front ≤ q → found q (before ++ (row ++ behind)) ≡ found q es
  found_of_behind q ge =
      let front_tiled = tiled_front front behind tiled_behind in
      found_behind before (row ++ behind) q (no_before q (omega arith))
      ∙ found_behind row behind q (none_behind row (total_len before) q placed maximal (omega arith))
      ∙ sym (found_behind front behind q (none_behind front 0 q front_tiled.placed front_tiled.maximal (omega arith)))
      ∙ ap (found q) (sym is_behind)

  pub joined_entries : (new : List (ℕ × SeenPiece)) → IsExchanged row es new (total_len front) → IsStrictlySortedBy nat_cmp (keys_of new) → new ≡ before ++ (row ++ behind)
  joined_entries new x order = same_as_placed new (before ++ (row ++ behind)) 0 order tiled_joined.placed tiled_joined.maximal (λ q. by_place q (cases_lt q (total_len before)) (cases_lt q (total_len front)))
    where
      by_place : (q : ℕ) → (q < total_len before) ⊎ (total_len before ≤ q) → (q < total_len front) ⊎ (total_len front ≤ q) → found q new ≡ found q (before ++ (row ++ behind))
      by_place q (inl lt) side = x.before q (omega arith) ∙ sym (found_of_before q lt)
      by_place q (inr ge) (inl lt) = x.within q (omega arith) lt ∙ sym (found_of_row q ge lt)
      by_place q (inr ge) (inr far) = x.behind q far ∙ sym (found_of_behind q far)

  pub joined_tiled : IsTiled (before ++ (row ++ behind))
  joined_tiled = tiled_joined

-- a range replaced by a row that was begun and ended
module _ (es old row : List (ℕ × SeenPiece)) (from to end : ℕ) (bytes : List AbstractByte) (t : IsTiled es) (b : IsBegun es old (take from (bytes_in es) ++ bytes))
    (to_is : to ≡ from + length bytes) (inside : to ≤ total_len es) (x : IsEnded es old row to end) where
  begun_len : length (take from (bytes_in es) ++ bytes) ≡ to
  begun_len = omega (arith, length-append (take from (bytes_in es)) bytes, length-take from (bytes_in es), length-bytes_in es)

  pub ready_row : IsRow row end
  ready_row = row_from_begun es old row (take from (bytes_in es) ++ bytes) to end b begun_len x inside

  ready : IsBegun es row (take from (bytes_in es) ++ bytes ++ x.more)
  ready = x.grown es (take from (bytes_in es) ++ bytes) b begun_len

  ready_ends : total_len ready.before + total_len row ≡ total_len x.front
  ready_ends =
      omega (
        arith,
        ap length ready.bytes_are,
        length-append (bytes_in ready.before) (bytes_in row),
        length-bytes_in ready.before,
        length-bytes_in row,
        length-append (take from (bytes_in es) ++ bytes) x.more,
        begun_len,
        ap length x.bytes_are,
        length-append x.more (bytes_in x.behind),
        length-bytes_in x.behind,
        length-drop to (bytes_in es),
        length-bytes_in es,
        ap total_len x.is,
        total_len-append x.front x.behind,
      )

  new_is : (new : List (ℕ × SeenPiece)) → IsExchanged row es new end → IsStrictlySortedBy nat_cmp (keys_of new) → new ≡ ready.before ++ (row ++ x.behind)
  new_is new exchanged order =
      let P : ℕ → Type 0 = λ n. IsExchanged row es new n in
      joined_entries es row ready.before ready.rest x.front x.behind t ready.is x.is ready.placed ready.maximal ready_ends ready.meets x.meets new (subst P (sym x.end_is) exchanged) order

  new_bytes : bytes_in (ready.before ++ (row ++ x.behind)) ≡ with_range_replaced (bytes_in es) from bytes
  new_bytes =
      bytes_in-append ready.before (row ++ x.behind)
      ∙ ap (λ (bs : List AbstractByte). bytes_in ready.before ++ bs) (bytes_in-append row x.behind)
      ∙ sym (append_assoc (bytes_in ready.before) (bytes_in row) (bytes_in x.behind))
      ∙ ap (λ (bs : List AbstractByte). bs ++ bytes_in x.behind) ready.bytes_are
      ∙ append_assoc (take from (bytes_in es) ++ bytes) x.more (bytes_in x.behind)
      ∙ ap (λ (bs : List AbstractByte). take from (bytes_in es) ++ bytes ++ bs) (sym x.bytes_are)
      ∙ ap (λ n. take from (bytes_in es) ++ bytes ++ drop n (bytes_in es)) to_is

  pub replaced : (new : List (ℕ × SeenPiece)) → IsExchanged row es new end → IsStrictlySortedBy nat_cmp (keys_of new) → IsReplaced es new from bytes
  replaced new exchanged order =
      let is = new_is new exchanged order in
      let bytes_are : bytes_in new ≡ with_range_replaced (bytes_in es) from bytes = ap bytes_in is ∙ new_bytes in
      record {
        tiled = tiled_as (ready.before ++ (row ++ x.behind)) new (sym is) (joined_tiled es row ready.before ready.rest x.front x.behind t ready.is x.is ready.placed ready.maximal ready_ends ready.meets x.meets);
        whole = omega (arith, length-bytes_in new, ap length bytes_are, length-bytes_in es, length-with_range_replaced (bytes_in es) from bytes (omega (arith, length-bytes_in es)));
        bytes_are = bytes_are;
      }
