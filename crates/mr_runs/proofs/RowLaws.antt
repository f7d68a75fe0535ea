-- Rows of pieces that are put together from left to right.
use Rattle.mr_runs.proofs.Common.{◌≡◌, ℕ, ◌+◌, ◌-◌, ◌<◌, ◌≤◌, List, [], ◌∷◌, ◌++◌, length, map, take, drop, get_or, Some, refl, sym, ap, ◌∙◌, subst, inl, inr, ⊎_elim, arith, append_assoc, length-append, length-take, map-append, replicate-append-replicate, take-append-le, drop-append-le, take_more, drop_all, values_of, AbstractByte, Uninit, Init, Mark, first_mark, last_mark, one_piece, together, IsBegun, IsEnded, IsPushed, SeenPiece, UninitPiece, InitPiece, bytes_of_piece, mark_of, piece_len, AreMaximal, bytes_in, total_len, Holds, IsPlaced, IsTiled, first_piece, piece_past}
use Rattle.std.proofs.Common.{append-nil}
use Rattle.std.proofs.lemmas.List.{take_all}
use Rattle.mr_runs.proofs.FindLaws.{holds_bytes, holds_start}
use Rattle.mr_runs.proofs.MaximalLaws.{first_mark-append, last_mark-push, maximal_append, maximal_front, maximal_back, maximal_seam}
use Rattle.mr_runs.proofs.PlacedLaws.{bytes_in-append, length-bytes_in, length-bytes_of_piece, placed_append, placed_back, placed_front, total_len-append, values_of-append}
use Rattle.mr_runs.proofs.ListLaws.{drop_in_append, take_in_append}
use Rattle.mr_runs.proofs.WindowLaws.{bytes_of_piece-first, bytes_of_piece-past, mark_of-first, mark_of-past, piece_len-first, piece_len-past}

-- ---- two pieces with one mark

pub mark_of-together : (p q : SeenPiece) → mark_of (together p q) ≡ mark_of p
mark_of-together (UninitPiece len) q = refl
mark_of-together (InitPiece numbers provenance) q = refl

pub bytes_of-together : (p q : SeenPiece) → mark_of p ≡ mark_of q → bytes_of_piece (together p q) ≡ bytes_of_piece p ++ bytes_of_piece q
bytes_of-together (UninitPiece m) (UninitPiece n) same = sym (replicate-append-replicate m n Uninit)
bytes_of-together (UninitPiece m) (InitPiece ns q) same = absurd (cc)
bytes_of-together (InitPiece ms p) (UninitPiece n) same = absurd (cc)
bytes_of-together (InitPiece ms p) (InitPiece ns q) same =
    let provenances : p ≡ q = cc in
    map-append (λ n. Init n p) ms ns
    ∙ ap (λ o. map (λ n. Init n p) ms ++ map (λ n. Init n o) ns) provenances

pub piece_len-together : (p q : SeenPiece) → mark_of p ≡ mark_of q → piece_len (together p q) ≡ piece_len p + piece_len q
piece_len-together p q same =
    sym (length-bytes_of_piece (together p q))
    ∙ ap length (bytes_of-together p q same)
    ∙ length-append (bytes_of_piece p) (bytes_of_piece q)
    ∙ add (length-bytes_of_piece p) (length-bytes_of_piece q)
  where
    add : {a b c d : ℕ} → a ≡ b → c ≡ d → a + c ≡ b + d
    add {a} {b} {c} {d} e f = omega arith

pub bytes_of-one_piece : (b : AbstractByte) → bytes_of_piece (one_piece b) ≡ b ∷ []
bytes_of-one_piece Uninit = refl
bytes_of-one_piece (Init n provenance) = refl

pub piece_len-one_piece : (b : AbstractByte) → piece_len (one_piece b) ≡ 1
piece_len-one_piece Uninit = refl
piece_len-one_piece (Init n provenance) = refl

-- ---- what a push makes of a row

-- the bytes behind some are more
bytes_pushed : (old : List (ℕ × SeenPiece)) (at : ℕ) (p : SeenPiece) (new : List (ℕ × SeenPiece)) → IsPushed old at p new → bytes_in new ≡ bytes_in old ++ bytes_of_piece p
bytes_pushed old at p new (inl j) =
    let old_bytes : bytes_in old ≡ bytes_in j.front ++ (bytes_of_piece j.last ++ []) = ap bytes_in j.old_is ∙ bytes_in-append j.front ((j.begin, j.last) ∷ []) in
    ap bytes_in j.new_is
    ∙ bytes_in-append j.front ((j.begin, together j.last p) ∷ [])
    ∙ ap (λ (bs : List AbstractByte). bytes_in j.front ++ bs) (append-nil (bytes_of_piece (together j.last p)) ∙ bytes_of-together j.last p j.same)
    ∙ sym (append_assoc (bytes_in j.front) (bytes_of_piece j.last) (bytes_of_piece p))
    ∙ ap (λ (bs : List AbstractByte). bytes_in j.front ++ bs ++ bytes_of_piece p) (sym (append-nil (bytes_of_piece j.last)))
    ∙ ap (λ (bs : List AbstractByte). bs ++ bytes_of_piece p) (sym old_bytes)
bytes_pushed old at p new (inr a) =
    ap bytes_in a.new_is
    ∙ bytes_in-append old ((at, p) ∷ [])
    ∙ ap (λ (bs : List AbstractByte). bytes_in old ++ bs) (append-nil (bytes_of_piece p))

pub total_pushed : (old : List (ℕ × SeenPiece)) (at : ℕ) (p : SeenPiece) (new : List (ℕ × SeenPiece)) → IsPushed old at p new → total_len new ≡ total_len old + piece_len p
total_pushed old at p new h =
    omega (arith, length-bytes_in new, length-bytes_in old, length-bytes_of_piece p, ap length (bytes_pushed old at p new h), length-append (bytes_in old) (bytes_of_piece p))

-- a row that ends where the piece begins stays one
placed_pushed : (old : List (ℕ × SeenPiece)) (at : ℕ) (p : SeenPiece) (new : List (ℕ × SeenPiece)) (begin : ℕ) → IsPushed old at p new → IsPlaced old begin → begin + total_len old ≡ at → IsPlaced new begin
placed_pushed old at p new begin (inl j) h ends =
    let P : List (ℕ × SeenPiece) → Type 0 = λ es. IsPlaced es begin in
    let h' = subst P j.old_is h in
    let last = placed_back j.front ((j.begin, j.last) ∷ []) begin h' in
    subst P (sym j.new_is) (placed_append j.front ((j.begin, together j.last p) ∷ []) begin (placed_front j.front ((j.begin, j.last) ∷ []) begin h') (last.0, tt))
placed_pushed old at p new begin (inr a) h ends =
    let P : List (ℕ × SeenPiece) → Type 0 = λ es. IsPlaced es begin in
    subst P (sym a.new_is) (placed_append old ((at, p) ∷ []) begin h (sym ends, tt))

maximal_pushed : (old : List (ℕ × SeenPiece)) (at : ℕ) (p : SeenPiece) (new : List (ℕ × SeenPiece)) → IsPushed old at p new → 0 < piece_len p → AreMaximal (values_of old) → AreMaximal (values_of new)
maximal_pushed old at p new (inl j) filled h =
    let P : List SeenPiece → Type 0 = λ ps. AreMaximal ps in
    let h' = subst P (ap values_of j.old_is ∙ values_of-append j.front ((j.begin, j.last) ∷ [])) h in
    let apart = maximal_seam (values_of j.front) (j.last ∷ []) h' in
    let last = maximal_back (values_of j.front) (j.last ∷ []) h' in
    let longer : 0 < piece_len (together j.last p) = omega (arith, piece_len-together j.last p j.same) in
    let marks : mark_of j.last ≡ mark_of (together j.last p) = sym (mark_of-together j.last p) in
    subst P (sym (ap values_of j.new_is ∙ values_of-append j.front ((j.begin, together j.last p) ∷ [])))
    (maximal_append (values_of j.front) (together j.last p ∷ []) (maximal_front (values_of j.front) (j.last ∷ []) h')
    (λ m e f. apart m e (ap (λ (n : Mark). Some n) marks ∙ f)) (longer, tt, tt))
maximal_pushed old at p new (inr a) filled h =
    let P : List SeenPiece → Type 0 = λ ps. AreMaximal ps in
    subst P (sym (ap values_of a.new_is ∙ values_of-append old ((at, p) ∷ [])))
    (maximal_append (values_of old) (p ∷ []) h (λ m e f. a.apart (e ∙ sym f)) (filled, tt, tt))

first_pushed : (old : List (ℕ × SeenPiece)) (at : ℕ) (p : SeenPiece) (new : List (ℕ × SeenPiece)) (m : Mark) → IsPushed old at p new → first_mark (values_of old) ≡ Some m → first_mark (values_of new) ≡ Some m
first_pushed old at p new m (inl j) first =
    ap (λ (es : List (ℕ × SeenPiece)). first_mark (values_of es)) j.new_is
    ∙ by_front j.front (sym (ap (λ (es : List (ℕ × SeenPiece)). first_mark (values_of es)) j.old_is) ∙ first)
  where
    by_front : (front : List (ℕ × SeenPiece)) → first_mark (values_of (front ++ (j.begin, j.last) ∷ [])) ≡ Some m → first_mark (values_of (front ++ (j.begin, together j.last p) ∷ [])) ≡ Some m
    by_front [] e = ap (λ (n : Mark). Some n) (mark_of-together j.last p) ∙ e
    by_front (x ∷ xs) e = e
first_pushed old at p new m (inr a) first =
    ap (λ (es : List (ℕ × SeenPiece)). first_mark (values_of es)) a.new_is
    ∙ ap first_mark (values_of-append old ((at, p) ∷ []))
    ∙ first_mark-append (values_of old) (p ∷ []) m first

pub last_pushed : (old : List (ℕ × SeenPiece)) (at : ℕ) (p : SeenPiece) (new : List (ℕ × SeenPiece)) → IsPushed old at p new → last_mark (values_of new) ≡ Some (mark_of p)
last_pushed old at p new (inl j) =
    ap (λ (es : List (ℕ × SeenPiece)). last_mark (values_of es)) j.new_is
    ∙ ap last_mark (values_of-append j.front ((j.begin, together j.last p) ∷ []))
    ∙ last_mark-push (values_of j.front) (together j.last p)
    ∙ ap (λ (n : Mark). Some n) (mark_of-together j.last p ∙ j.same)
last_pushed old at p new (inr a) =
    ap (λ (es : List (ℕ × SeenPiece)). last_mark (values_of es)) a.new_is
    ∙ ap last_mark (values_of-append old ((at, p) ∷ []))
    ∙ last_mark-push (values_of old) p

-- ---- rows that are begun

-- a row behind some pieces ends where its bytes do
pub begun_ends : (es row : List (ℕ × SeenPiece)) (bytes : List AbstractByte) → (h : IsBegun es row bytes) → total_len h.before + total_len row ≡ length bytes
begun_ends es row bytes h =
    omega (arith, ap length h.bytes_are, length-append (bytes_in h.before) (bytes_in row), length-bytes_in h.before, length-bytes_in row)

pub begun_push : (es old : List (ℕ × SeenPiece)) (bytes : List AbstractByte) (at : ℕ) (p : SeenPiece) (new : List (ℕ × SeenPiece))
    → IsBegun es old bytes → IsPushed old at p new → length bytes ≡ at → 0 < piece_len p → IsBegun es new (bytes ++ bytes_of_piece p)
begun_push es old bytes at p new h pushed ends filled = record {
  before = h.before;
  rest = h.rest;
  is = h.is;
  placed = placed_pushed old at p new (total_len h.before) pushed h.placed (begun_ends es old bytes h ∙ ends);
  maximal = maximal_pushed old at p new pushed filled h.maximal;
  bytes_are =
      ap (λ (bs : List AbstractByte). bytes_in h.before ++ bs) (bytes_pushed old at p new pushed)
      ∙ sym (append_assoc (bytes_in h.before) (bytes_in old) (bytes_of_piece p))
      ∙ ap (λ (bs : List AbstractByte). bs ++ bytes_of_piece p) h.bytes_are;
  meets = ⊎_elim (λ none. inl none) (λ s. inr (s.0, first_pushed old at p new s.0 pushed s.1, s.2)) h.meets;
}

-- a row is begun with more bytes, if these are the same
pub begun_as : (es row : List (ℕ × SeenPiece)) (a b : List AbstractByte) → a ≡ b → IsBegun es row a → IsBegun es row b
begun_as es row a b e h = let P : List AbstractByte → Type 0 = λ bs. IsBegun es row bs in subst P e h

-- a row that is as long as the bytes before it is no longer than these
pub begun_room : (es row : List (ℕ × SeenPiece)) (bytes : List AbstractByte) (at : ℕ) → IsBegun es row bytes → length bytes ≤ at → total_len row ≤ at
begun_room es row bytes at h le = omega (arith, begun_ends es row bytes h)

-- the last piece of a row with a piece behind it
pub last_of_push : (front : List (ℕ × SeenPiece)) (e : ℕ × SeenPiece) → last_mark (values_of (front ++ e ∷ [])) ≡ Some (mark_of e.1)
last_of_push front e = ap last_mark (values_of-append front (e ∷ [])) ∙ last_mark-push (values_of front) e.1

-- the step of a loop that puts bytes behind a row
pub begun_byte : (es initial now new : List (ℕ × SeenPiece)) (at i : ℕ) (bytes : List AbstractByte) (b : AbstractByte) → IsPushed now (at + i) (one_piece b) new → i < length bytes → b ≡ get_or bytes i b
    → ((done : List AbstractByte) → IsBegun es initial done → length done ≡ at → IsBegun es now (done ++ take i bytes))
    → (done : List AbstractByte) → IsBegun es initial done → length done ≡ at → IsBegun es new (done ++ take (i + 1) bytes)
begun_byte es initial now new at i bytes b pushed inside is grown done begun ends =
    let ends_now : length (done ++ take i bytes) ≡ at + i = omega (arith, length-append done (take i bytes), length-take i bytes) in
    begun_as es new (done ++ take i bytes ++ bytes_of_piece (one_piece b)) (done ++ take (i + 1) bytes)
    (
    ap (λ (bs : List AbstractByte). done ++ take i bytes ++ bs) (bytes_of-one_piece b)
    ∙ append_assoc done (take i bytes) (b ∷ [])
    ∙ ap (λ (x : AbstractByte). done ++ (take i bytes ++ x ∷ [])) is
    ∙ ap (λ (bs : List AbstractByte). done ++ bs) (sym (take_more bytes i b inside))
    )
    (begun_push es now (done ++ take i bytes) (at + i) (one_piece b) new (grown done begun ends) pushed ends_now (omega (arith, piece_len-one_piece b)))

-- the row of what stands before a position in the piece that holds the one before it
pub begun_front : (es : List (ℕ × SeenPiece)) (from begin : ℕ) (p q : SeenPiece) → IsTiled es → 0 < from → Holds es (from - 1) begin p
    → q ≡ first_piece (piece_past p 0) (from - begin) → IsBegun es ((begin, q) ∷ []) (take from (bytes_in es))
begun_front es from begin p q t some h is =
    let start : total_len h.before ≡ begin = holds_start es (from - 1) begin p t h in
    let low : begin ≤ from - 1 = h.from in
    let high : from - 1 < begin + piece_len p = h.to in
    let len : piece_len q ≡ from - begin = shorter in
    let before_len : length (bytes_in h.before) ≡ begin = length-bytes_in h.before ∙ start in
    record {
      before = h.before;
      rest = (begin, p) ∷ h.behind;
      is = h.is;
      placed = (sym start, tt);
      maximal = (omega arith, tt, tt);
      bytes_are = same_bytes;
      meets = inr (mark_of p, ap (λ (m : Mark). Some m) marks, refl);
    }
  where
    shorter : piece_len q ≡ from - begin
    shorter =
        let low : begin ≤ from - 1 = h.from in
        let high : from - 1 < begin + piece_len p = h.to in
        omega (arith, ap piece_len is, piece_len-first (piece_past p 0) (from - begin), piece_len-past p 0)

    marks : mark_of q ≡ mark_of p
    marks = ap mark_of is ∙ mark_of-first (piece_past p 0) (from - begin) ∙ mark_of-past p 0

    piece_bytes : bytes_of_piece q ≡ take (from - begin) (bytes_of_piece p)
    piece_bytes = ap bytes_of_piece is ∙ bytes_of_piece-first (piece_past p 0) (from - begin) ∙ ap (take (from - begin)) (bytes_of_piece-past p 0)

    same_bytes : bytes_in h.before ++ (bytes_of_piece q ++ []) ≡ take from (bytes_in es)
    same_bytes =
        let start : total_len h.before ≡ begin = holds_start es (from - 1) begin p t h in
        let low : begin ≤ from - 1 = h.from in
        let high : from - 1 < begin + piece_len p = h.to in
        let before_len : length (bytes_in h.before) ≡ begin = length-bytes_in h.before ∙ start in
        let whole : length (bytes_in h.before) ≤ from = omega arith in
        let fits : from - begin ≤ length (bytes_of_piece p) = omega (arith, length-bytes_of_piece p) in
        sym (
        ap (take from) (holds_bytes es (from - 1) begin p h)
        ∙ take_in_append from (bytes_in h.before) (bytes_of_piece p ++ bytes_in h.behind)
        ∙ ap (λ (bs : List AbstractByte). bs ++ take (from - length (bytes_in h.before)) (bytes_of_piece p ++ bytes_in h.behind)) (take_all from (bytes_in h.before) whole)
        ∙ ap (λ n. bytes_in h.before ++ take (from - n) (bytes_of_piece p ++ bytes_in h.behind)) before_len
        ∙ ap (λ (bs : List AbstractByte). bytes_in h.before ++ bs) (take-append-le (from - begin) (bytes_of_piece p) (bytes_in h.behind) fits ∙ sym piece_bytes ∙ sym (append-nil (bytes_of_piece q)))
        )

-- ---- rows that are ended

-- where nothing stands behind, the row is ready
pub ended_at_end : (es row : List (ℕ × SeenPiece)) (to : ℕ) → total_len es ≡ to → IsEnded es row row to to
ended_at_end es row to whole = record {
  front = es;
  behind = [];
  is = sym (append-nil es);
  end_is = whole;
  more = [];
  bytes_are = drop_all to (bytes_in es) (omega (arith, length-bytes_in es));
  grown = λ fs bytes h _. begun_as fs row bytes (bytes ++ []) (sym (append-nil bytes)) h;
  meets = inl refl;
}

-- else what stands behind the position in the piece that holds it is put behind the row
pub ended_within : (es old new : List (ℕ × SeenPiece)) (to begin end : ℕ) (p q : SeenPiece) → IsTiled es → Holds es to begin p → end ≡ begin + piece_len p
    → q ≡ first_piece (piece_past p (to - begin)) (end - to) → IsPushed old to q new → IsEnded es old new to end
ended_within es old new to begin end p q t h end_is is pushed = record {
  front = h.before ++ (begin, p) ∷ [];
  behind = h.behind;
  is = h.is ∙ regroup;
  end_is = front_ends;
  more = bytes_of_piece q;
  bytes_are = same_bytes;
  grown = λ fs bytes b ends. begun_push fs old bytes to q new b pushed ends filled;
  meets = inr (mark_of p, last_pushed old to q new pushed ∙ ap (λ (m : Mark). Some m) marks, front_mark);
}
  where
    regroup : h.before ++ (begin, p) ∷ h.behind ≡ h.before ++ (begin, p) ∷ [] ++ h.behind
    regroup = sym (append_assoc h.before ((begin, p) ∷ []) h.behind)

    front_ends : total_len (h.before ++ (begin, p) ∷ []) ≡ end
    front_ends = omega (arith, total_len-append h.before ((begin, p) ∷ []), holds_start es to begin p t h, end_is)

    front_mark : last_mark (values_of (h.before ++ (begin, p) ∷ [])) ≡ Some (mark_of p)
    front_mark = ap last_mark (values_of-append h.before ((begin, p) ∷ [])) ∙ last_mark-push (values_of h.before) p

    marks : mark_of q ≡ mark_of p
    marks = ap mark_of is ∙ mark_of-first (piece_past p (to - begin)) (end - to) ∙ mark_of-past p (to - begin)

    rest_len : piece_len (piece_past p (to - begin)) ≡ end - to
    rest_len =
        let low : begin ≤ to = h.from in
        let high : to < begin + piece_len p = h.to in
        omega (arith, piece_len-past p (to - begin), end_is)

    filled : 0 < piece_len q
    filled =
        let high : to < begin + piece_len p = h.to in
        omega (arith, ap piece_len is, piece_len-first (piece_past p (to - begin)) (end - to), rest_len, end_is)

    piece_bytes : bytes_of_piece q ≡ drop (to - begin) (bytes_of_piece p)
    piece_bytes =
        ap bytes_of_piece is
        ∙ bytes_of_piece-first (piece_past p (to - begin)) (end - to)
        ∙ take_all (end - to) (bytes_of_piece (piece_past p (to - begin))) (omega (arith, length-bytes_of_piece (piece_past p (to - begin)), rest_len))
        ∙ bytes_of_piece-past p (to - begin)

    same_bytes : drop to (bytes_in es) ≡ bytes_of_piece q ++ bytes_in h.behind
    same_bytes =
        let start : total_len h.before ≡ begin = holds_start es to begin p t h in
        let low : begin ≤ to = h.from in
        let high : to < begin + piece_len p = h.to in
        let before_len : length (bytes_in h.before) ≡ begin = length-bytes_in h.before ∙ start in
        ap (drop to) (holds_bytes es to begin p h)
        ∙ drop_in_append to (bytes_in h.before) (bytes_of_piece p ++ bytes_in h.behind) (omega arith)
        ∙ ap (λ n. drop (to - n) (bytes_of_piece p ++ bytes_in h.behind)) before_len
        ∙ drop-append-le (to - begin) (bytes_of_piece p) (bytes_in h.behind) (omega (arith, length-bytes_of_piece p))
        ∙ ap (λ (bs : List AbstractByte). bs ++ bytes_in h.behind) (sym piece_bytes)
