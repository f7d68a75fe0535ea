-- Numbers put in place in a piece, and a piece put in place of one that is as long.
use Rattle.mr_runs.proofs.Common.{◌≡◌, ◌≢◌, ℕ, zero, suc, get_or, ◌+◌, ◌-◌, ◌<◌, ◌≤◌, cond, List, [], ◌∷◌, ◌++◌, length, map, Some, Option, refl, sym, ap, ◌∙◌, inr, arith, append_assoc, nat_cmp, length-map, is_at, values_of, AllocId, AbstractByte, Init, Mark, last_mark, number_of, with_numbers_at, with_provenance, AreOf, IsInPlace, TakesNumbers, SeenPiece, UninitPiece, InitPiece, bytes_of_piece, mark_of, piece_len, AreMaximal, bytes_in, total_len, Holds, IsPlaced, IsReplaced, IsTiled, with_range_replaced}
use Rattle.std.specs.Map.{set_value}
use Rattle.mr_runs.proofs.ExchangeLaws.{joined_tiled}
use Rattle.mr_runs.proofs.FindLaws.{holds_bytes, holds_start, maximal_rest, tiled_as, tiled_front}
use Rattle.mr_runs.proofs.MaximalLaws.{last_mark-push}
use Rattle.mr_runs.proofs.PlacedLaws.{bytes_in-append, length-bytes_in, length-bytes_of_piece, total_len-append, values_of-append}
use Rattle.mr_runs.proofs.Positions.{at_other, at_same}
use Rattle.mr_runs.proofs.RangeLaws.{length-with_range_replaced, map_replaced, replaced_inside}

-- ---- numbers put in place

module _ (numbers : List ℕ) (provenance : Option AllocId) (at : ℕ) (bytes : List AbstractByte) (h : IsInPlace (InitPiece numbers provenance) at bytes) where
  pub bytes_put : bytes_of_piece (InitPiece (with_range_replaced numbers at (map number_of bytes)) provenance) ≡ with_range_replaced (bytes_of_piece (InitPiece numbers provenance)) at bytes
  bytes_put =
      map_replaced (λ n. Init n provenance) numbers at (map number_of bytes)
      ∙ ap (with_range_replaced (map (λ n. Init n provenance) numbers) at) (sym h.1)

  pub len_put : length (with_range_replaced numbers at (map number_of bytes)) ≡ length numbers
  len_put = let fits = h.0 in length-with_range_replaced numbers at (map number_of bytes) (omega (arith, length-map bytes number_of))

-- each of the bytes is initialised with the provenance
pub are_of_at : (provenance : Option AllocId) (bytes : List AbstractByte) (i : ℕ) (d : AbstractByte) → AreOf provenance bytes → i < length bytes → get_or bytes i d ≡ Init (number_of (get_or bytes i d)) provenance
are_of_at provenance [] i d h lt = absurd (omega arith)
are_of_at provenance (b ∷ bytes) zero d h lt = cc
are_of_at provenance (b ∷ bytes) (suc i) d h lt = let rest : AreOf provenance bytes = cc in are_of_at provenance bytes i d rest (omega arith)

pub in_place_fits : (p : SeenPiece) (at : ℕ) (bytes : List AbstractByte) → IsInPlace p at bytes → at + length bytes ≤ piece_len p
in_place_fits (UninitPiece len) at bytes h = absurd h
in_place_fits (InitPiece numbers provenance) at bytes h = h.0

-- ---- a piece put in place

set_value_at : (before : List (ℕ × SeenPiece)) (at begin : ℕ) (p w : SeenPiece) (behind : List (ℕ × SeenPiece)) → IsPlaced before at → AreMaximal (values_of before) → at + total_len before ≡ begin
    → set_value (is_at (nat_cmp begin)) (before ++ (begin, p) ∷ behind) w ≡ before ++ (begin, w) ∷ behind
set_value_at [] at begin p w behind h m ends = ap (λ b. cond b ((begin, w) ∷ behind) ((begin, p) ∷ set_value (is_at (nat_cmp begin)) behind w)) (at_same begin begin refl)
set_value_at (e ∷ before) at begin p w behind h m ends =
    let here : e.0 ≡ at = h.0 in
    let filled : 0 < piece_len e.1 = m.0 in
    let other : begin ≢ e.0 = λ same. omega arith in
    ap (λ b. cond b ((e.0, w) ∷ before ++ (begin, p) ∷ behind) (e ∷ set_value (is_at (nat_cmp begin)) (before ++ (begin, p) ∷ behind) w)) (at_other begin e.0 other)
    ∙ ap (λ (xs : List (ℕ × SeenPiece)). e ∷ xs) (set_value_at before (at + piece_len e.1) begin p w behind h.1 m.2 (omega arith))

module _ (es : List (ℕ × SeenPiece)) (from begin : ℕ) (p w : SeenPiece) (bytes : List AbstractByte) (t : IsTiled es) (h : Holds es from begin p)
    (fits : from + length bytes ≤ begin + piece_len p) (some : 0 < length bytes)
    (bytes_are : bytes_of_piece w ≡ with_range_replaced (bytes_of_piece p) (from - begin) bytes) (marks : mark_of w ≡ mark_of p) (lens : piece_len w ≡ piece_len p) where
  start : total_len h.before ≡ begin
  start = holds_start es from begin p t h

  whole : IsTiled (h.before ++ (begin, p) ∷ h.behind)
  whole = tiled_as es (h.before ++ (begin, p) ∷ h.behind) h.is t

  front : IsTiled h.before
  front = tiled_front h.before ((begin, p) ∷ h.behind) whole

  new_entries : set_value (is_at (nat_cmp begin)) es w ≡ h.before ++ (begin, w) ∷ h.behind
  new_entries =
      ap (λ (xs : List (ℕ × SeenPiece)). set_value (is_at (nat_cmp begin)) xs w) h.is
      ∙ set_value_at h.before 0 begin p w h.behind front.placed front.maximal (omega (arith, start))

  filled : 0 < piece_len w
  filled = let inside : 0 < piece_len p = (maximal_rest h.before ((begin, p) ∷ h.behind) whole).0 in omega (arith, lens)

  new_tiled : IsTiled (h.before ++ (begin, w) ∷ h.behind)
  new_tiled =
      joined_tiled es ((begin, w) ∷ []) h.before ((begin, p) ∷ h.behind) (h.before ++ (begin, p) ∷ []) h.behind t h.is
      (h.is ∙ sym (append_assoc h.before ((begin, p) ∷ []) h.behind))
      (sym start, tt) (filled, tt, tt) (omega (arith, total_len-append h.before ((begin, p) ∷ []), lens))
      (inr (mark_of p, ap (λ (m : Mark). Some m) marks, refl))
      (inr (mark_of p, ap (λ (m : Mark). Some m) marks, ap last_mark (values_of-append h.before ((begin, p) ∷ [])) ∙ last_mark-push (values_of h.before) p))

  new_bytes : bytes_in (h.before ++ (begin, w) ∷ h.behind) ≡ with_range_replaced (bytes_in es) from bytes
  new_bytes =
      let low : begin ≤ from = h.from in
      let len : length (bytes_in h.before) ≡ begin = length-bytes_in h.before ∙ start in
      bytes_in-append h.before ((begin, w) ∷ h.behind)
      ∙ ap (λ (bs : List AbstractByte). bytes_in h.before ++ (bs ++ bytes_in h.behind)) (bytes_are ∙ ap (λ n. with_range_replaced (bytes_of_piece p) (from - n) bytes) (sym len))
      ∙ sym (replaced_inside (bytes_in h.before) (bytes_of_piece p) (bytes_in h.behind) from bytes (omega arith) (omega (arith, length-bytes_of_piece p)))
      ∙ ap (λ (bs : List AbstractByte). with_range_replaced bs from bytes) (sym (holds_bytes es from begin p h))

  -- the piece with other bytes makes a range of the bytes replaced
  pub replaced_in_place : (new : List (ℕ × SeenPiece)) → new ≡ set_value (is_at (nat_cmp begin)) es w → IsReplaced es new from bytes
  replaced_in_place new is = record {
    tiled = tiled_as (h.before ++ (begin, w) ∷ h.behind) new (sym (is ∙ new_entries)) new_tiled;
    whole = omega (arith, ap total_len (is ∙ new_entries), ap total_len h.is, total_len-append h.before ((begin, w) ∷ h.behind), total_len-append h.before ((begin, p) ∷ h.behind), lens);
    bytes_are = ap bytes_in (is ∙ new_entries) ∙ new_bytes;
  }

-- ---- numbers with a provenance put in place

pub numbers_fit : (p : SeenPiece) (at count : ℕ) (provenance : Option AllocId) → TakesNumbers p at count provenance → at + count ≤ piece_len p
numbers_fit (UninitPiece len) at count provenance h = absurd h
numbers_fit (InitPiece numbers own) at count provenance h = h.0

-- the bytes of the piece with other numbers, what it has in common, how many it has, and how many were put
pub record NumbersPut (p : SeenPiece) (at : ℕ) (numbers : List ℕ) (provenance : Option AllocId) : Type 0 where
  pub bytes_are : bytes_of_piece (with_numbers_at p at numbers) ≡ with_range_replaced (bytes_of_piece p) at (with_provenance provenance numbers)
  pub marks : mark_of (with_numbers_at p at numbers) ≡ mark_of p
  pub lens : piece_len (with_numbers_at p at numbers) ≡ piece_len p
  pub count : length (with_provenance provenance numbers) ≡ length numbers

pub numbers_put : (p : SeenPiece) (at : ℕ) (numbers : List ℕ) (provenance : Option AllocId) → TakesNumbers p at (length numbers) provenance → NumbersPut p at numbers provenance
numbers_put (UninitPiece len) at numbers provenance h = absurd h
numbers_put (InitPiece own its) at numbers provenance h =
    let fits : at + length numbers ≤ length own = h.0 in
    record {
      bytes_are = map_replaced (λ n. Init n its) own at numbers ∙ ap (λ (q : Option AllocId). with_range_replaced (map (λ n. Init n its) own) at (with_provenance q numbers)) h.1;
      marks = refl;
      lens = length-with_range_replaced own at numbers fits;
      count = length-map numbers (λ n. Init n provenance);
    }
