-- Bytes whose numbers are kept apart from their marks.
use Rattle.mr_runs.proofs.Common.{◌≡◌, ℕ, zero, suc, ◌+◌, ◌-◌, ◌<◌, ◌≤◌, min, List, [], ◌∷◌, ◌++◌, length, map, replicate, take, drop, Option, refl, sym, ap, ◌∙◌, subst, arith, append_assoc, length-append, length-drop, length-take, drop-drop, take-take, take_all, option_map, slice_get, values_of, append-nil, drop-replicate, length-map, length-replicate, replicate-append-replicate, take-append-drop, take-append-le, take-replicate, AbstractByte, Uninit, Init, AllocId, Kept, Whole, Split, Mark, marked_piece, numbers_of, together, number_of, with_provenance, SeenPiece, UninitPiece, InitPiece, bytes_of_piece, mark_of, piece_len, AreMaximal, IsApartFrom, Holds, IsPlaced, IsReplaced, IsTiled, bytes_in, total_len, with_range_replaced, IsSound, IsStamped, IsStampedAnew, entries_of, stamped, stamped_entry, stamped_piece, without_number, first_piece, piece_past}
use Rattle.std.proofs.lemmas.List.{length-take-le}
use Rattle.mr_runs.specs.Stamped.{stamp, with_number}
use Rattle.mr_runs.specs.declared.mark.Mark.TheVariants as mark
use Rattle.mr_runs.proofs.FindLaws.{holds_bytes, holds_end, holds_start}
use Rattle.mr_runs.proofs.ListLaws.{drop_in_append, take_in_append}
use Rattle.mr_runs.proofs.PlacedLaws.{length-bytes_in, length-bytes_of_piece, placed_at}
use Rattle.mr_runs.proofs.RangeLaws.{length-with_range_replaced}
use Rattle.mr_runs.proofs.WindowLaws.{first_piece-all, piece_len-past, piece_past-zero}

-- ---- lists of bytes

pub length-stamp : (ns : List ℕ) (bs : List AbstractByte) → length (stamp ns bs) ≡ length bs
length-stamp [] bs = refl
length-stamp (n ∷ ns) [] = refl
length-stamp (n ∷ ns) (b ∷ bs) = ap suc (length-stamp ns bs)

stamp-append : (ns : List ℕ) (xs ys : List AbstractByte) → stamp ns (xs ++ ys) ≡ stamp ns xs ++ stamp (drop (length xs) ns) ys
stamp-append [] [] ys = refl
stamp-append [] (x ∷ xs) ys = refl
stamp-append (n ∷ ns) [] ys = refl
stamp-append (n ∷ ns) (x ∷ xs) ys = ap (λ (bs : List AbstractByte). with_number n x ∷ bs) (stamp-append ns xs ys)

-- two parts, each with its numbers
stamp_both : (ms ns : List ℕ) (xs ys : List AbstractByte) → length ms ≡ length xs → stamp (ms ++ ns) (xs ++ ys) ≡ stamp ms xs ++ stamp ns ys
stamp_both [] ns [] ys e = refl
stamp_both [] ns (x ∷ xs) ys e = absurd (omega (arith, e))
stamp_both (m ∷ ms) ns [] ys e = absurd (omega (arith, e))
stamp_both (m ∷ ms) ns (x ∷ xs) ys e = ap (λ (bs : List AbstractByte). with_number m x ∷ bs) (stamp_both ms ns xs ys (omega (arith, e)))

stamp-take : (k : ℕ) (ns : List ℕ) (bs : List AbstractByte) → stamp (take k ns) (take k bs) ≡ take k (stamp ns bs)
stamp-take zero [] bs = refl
stamp-take zero (n ∷ ns) bs = refl
stamp-take (suc k) [] bs = refl
stamp-take (suc k) (n ∷ ns) [] = refl
stamp-take (suc k) (n ∷ ns) (b ∷ bs) = ap (λ (xs : List AbstractByte). with_number n b ∷ xs) (stamp-take k ns bs)

stamp-nil : (ns : List ℕ) → stamp ns [] ≡ []
stamp-nil [] = refl
stamp-nil (n ∷ ns) = refl

stamp-drop : (k : ℕ) (ns : List ℕ) (bs : List AbstractByte) → stamp (drop k ns) (drop k bs) ≡ drop k (stamp ns bs)
stamp-drop zero ns bs = refl
stamp-drop (suc k) [] bs = refl
stamp-drop (suc k) (n ∷ ns) [] = stamp-nil (drop k ns)
stamp-drop (suc k) (n ∷ ns) (b ∷ bs) = stamp-drop k ns bs

-- uninitialised bytes have no numbers
stamp_uninit : (ns : List ℕ) (len : ℕ) → stamp ns (replicate len Uninit) ≡ replicate len Uninit
stamp_uninit [] len = refl
stamp_uninit (n ∷ ns) zero = refl
stamp_uninit (n ∷ ns) (suc len) = ap (λ (bs : List AbstractByte). Uninit ∷ bs) (stamp_uninit ns len)

-- initialised ones take those that they are given
stamp_init : (ns own : List ℕ) (provenance : Option AllocId) → length own ≤ length ns → stamp ns (map (λ n. Init n provenance) own) ≡ map (λ n. Init n provenance) (take (length own) ns)
stamp_init [] [] provenance le = refl
stamp_init [] (m ∷ own) provenance le = absurd (omega (arith, le))
stamp_init (n ∷ ns) [] provenance le = refl
stamp_init (n ∷ ns) (m ∷ own) provenance le = ap (λ (bs : List AbstractByte). Init n provenance ∷ bs) (stamp_init ns own provenance (omega (arith, le)))

-- bytes that were written without their numbers, and the numbers beside them
pub stamp_back : (bs : List AbstractByte) → stamp (map number_of bs) (map without_number bs) ≡ bs
stamp_back [] = refl
stamp_back (Uninit ∷ bs) = ap (λ (xs : List AbstractByte). Uninit ∷ xs) (stamp_back bs)
stamp_back (Init n provenance ∷ bs) = ap (λ (xs : List AbstractByte). Init n provenance ∷ xs) (stamp_back bs)

pub stamp_marked : (ns : List ℕ) (provenance : Option AllocId) → stamp ns (bytes_of_piece (marked_piece (length ns) (mark.Init provenance))) ≡ with_provenance provenance ns
stamp_marked [] provenance = refl
stamp_marked (n ∷ ns) provenance = ap (λ (bs : List AbstractByte). Init n provenance ∷ bs) (stamp_marked ns provenance)

-- a range of the bytes replaced, and the same of their numbers
stamp_replaced : (ns ms : List ℕ) (bs cs : List AbstractByte) (from : ℕ) → length ns ≡ length bs → length ms ≡ length cs → from + length cs ≤ length bs
    → stamp (with_range_replaced ns from ms) (with_range_replaced bs from cs) ≡ with_range_replaced (stamp ns bs) from (stamp ms cs)
stamp_replaced ns ms bs cs from same own inside =
    let front : length (take from ns) ≡ length (take from bs) = omega (arith, same, length-take from ns, length-take from bs) in
    let first : length (take from ns ++ ms) ≡ length (take from bs ++ cs) = omega (arith, front, own, length-append (take from ns) ms, length-append (take from bs) cs) in
    stamp_both (take from ns ++ ms) (drop (from + length ms) ns) (take from bs ++ cs) (drop (from + length cs) bs) first
    ∙ ap (λ (xs : List AbstractByte). xs ++ stamp (drop (from + length ms) ns) (drop (from + length cs) bs)) (stamp_both (take from ns) ms (take from bs) cs front)
    ∙ ap (λ k. stamp (take from ns) (take from bs) ++ stamp ms cs ++ stamp (drop (from + k) ns) (drop (from + length cs) bs)) own
    ∙ ap (λ (xs : List AbstractByte). xs ++ stamp ms cs ++ stamp (drop (from + length cs) ns) (drop (from + length cs) bs)) (stamp-take from ns bs)
    ∙ ap (λ (xs : List AbstractByte). take from (stamp ns bs) ++ stamp ms cs ++ xs) (stamp-drop (from + length cs) ns bs)
    ∙ ap (λ k. take from (stamp ns bs) ++ stamp ms cs ++ drop (from + k) (stamp ns bs)) (sym (length-stamp ms cs))

-- a list with a part of it put where it stands
replaced_same : {X : Type 0} (xs : List X) (from k : ℕ) → from + k ≤ length xs → with_range_replaced xs from (take k (drop from xs)) ≡ xs
replaced_same {X} xs from k inside =
    let len : length (take k (drop from xs)) ≡ k = omega (arith, length-take k (drop from xs), length-drop from xs) in
    ap (λ n. take from xs ++ take k (drop from xs) ++ drop (from + n) xs) len
    ∙ ap (λ (ys : List X). take from xs ++ take k (drop from xs) ++ ys) (sym (drop-drop k from xs))
    ∙ append_assoc (take from xs) (take k (drop from xs)) (drop k (drop from xs))
    ∙ ap (λ (ys : List X). take from xs ++ ys) (take-append-drop k (drop from xs))
    ∙ take-append-drop from xs

pub replaced_by_none : {X : Type 0} (xs : List X) (from : ℕ) → with_range_replaced xs from [] ≡ xs
replaced_by_none {X} xs from =
    append_assoc (take from xs) [] (drop (from + 0) xs)
    ∙ ap (λ n. take from xs ++ drop n xs) (no_more from)
    ∙ take-append-drop from xs
  where
    no_more : (n : ℕ) → n + 0 ≡ n
    no_more n = omega arith

-- ---- pieces

pub mark_of-stamped : (ns : List ℕ) (p : SeenPiece) → mark_of (stamped_piece ns p) ≡ mark_of p
mark_of-stamped ns (UninitPiece len) = refl
mark_of-stamped ns (InitPiece own provenance) = refl

pub piece_len-stamped : (ns : List ℕ) (p : SeenPiece) → piece_len p ≤ length ns → piece_len (stamped_piece ns p) ≡ piece_len p
piece_len-stamped ns (UninitPiece len) le = refl
piece_len-stamped ns (InitPiece own provenance) le = length-take-le (length own) ns le

bytes_of_piece-stamped : (ns : List ℕ) (p : SeenPiece) → piece_len p ≤ length ns → bytes_of_piece (stamped_piece ns p) ≡ stamp ns (bytes_of_piece p)
bytes_of_piece-stamped ns (UninitPiece len) le = sym (stamp_uninit ns len)
bytes_of_piece-stamped ns (InitPiece own provenance) le = sym (stamp_init ns own provenance le)

pub stamped-append : (ns : List ℕ) (xs ys : List (ℕ × SeenPiece)) → stamped ns (xs ++ ys) ≡ stamped ns xs ++ stamped ns ys
stamped-append ns [] ys = refl
stamped-append ns (x ∷ xs) ys = ap (λ (es : List (ℕ × SeenPiece)). stamped_entry ns x ∷ es) (stamped-append ns xs ys)

-- pieces that are placed stay so, and as many bytes, of the same marks
pub record IsAlike (ns : List ℕ) (es : List (ℕ × SeenPiece)) (at : ℕ) : Type 0 where
  pub placed : IsPlaced (stamped ns es) at
  pub whole : total_len (stamped ns es) ≡ total_len es
  pub maximal : AreMaximal (values_of es) → AreMaximal (values_of (stamped ns es))
  pub bytes_are : bytes_in (stamped ns es) ≡ stamp (drop at ns) (bytes_in es)

alike_more : (ns : List ℕ) (e : ℕ × SeenPiece) (es : List (ℕ × SeenPiece)) (at : ℕ) → IsPlaced (e ∷ es) at → at + total_len (e ∷ es) ≤ length ns → IsAlike ns es (at + piece_len e.1) → IsAlike ns (e ∷ es) at
alike_more ns e es at h fits rest =
    record {
      placed = (here, placed_at (stamped ns es) (at + piece_len e.1) (at + piece_len own) (omega (arith, len)) rest.placed);
      whole = let more = rest.whole in omega (arith, len, more);
      maximal = λ m. (let filled = m.0 in omega (arith, filled, len), apart es m.1, rest.maximal m.2);
      bytes_are =
          ap (λ (bs : List AbstractByte). bs ++ bytes_in (stamped ns es)) (bytes_of_piece-stamped (drop e.0 ns) e.1 low)
          ∙ ap (λ n. stamp (drop n ns) (bytes_of_piece e.1) ++ bytes_in (stamped ns es)) here
          ∙ ap (λ (bs : List AbstractByte). stamp (drop at ns) (bytes_of_piece e.1) ++ bs) (rest.bytes_are ∙ ap (λ (ms : List ℕ). stamp ms (bytes_in es)) behind)
          ∙ sym (stamp-append (drop at ns) (bytes_of_piece e.1) (bytes_in es));
    }
  where
    here : e.0 ≡ at
    here = h.0

    own : SeenPiece
    own = stamped_piece (drop e.0 ns) e.1

    low : piece_len e.1 ≤ length (drop e.0 ns)
    low = omega (arith, length-drop e.0 ns, here, fits)

    len : piece_len own ≡ piece_len e.1
    len = piece_len-stamped (drop e.0 ns) e.1 low

    behind : drop (at + piece_len e.1) ns ≡ drop (length (bytes_of_piece e.1)) (drop at ns)
    behind = ap (λ n. drop (at + n) ns) (sym (length-bytes_of_piece e.1)) ∙ sym (drop-drop (length (bytes_of_piece e.1)) at ns)

    apart : (fs : List (ℕ × SeenPiece)) → IsApartFrom e.1 (values_of fs) → IsApartFrom own (values_of (stamped ns fs))
    apart [] a = tt
    apart (f ∷ fs) a = λ same. a (sym (mark_of-stamped (drop e.0 ns) e.1) ∙ same ∙ mark_of-stamped (drop f.0 ns) f.1)

pub alike : (ns : List ℕ) (es : List (ℕ × SeenPiece)) (at : ℕ) → IsPlaced es at → at + total_len es ≤ length ns → IsAlike ns es at
alike ns [] at h fits = record {
  placed = tt;
  whole = refl;
  maximal = λ m. tt;
  bytes_are = sym (stamp-nil (drop at ns));
}
alike ns (e ∷ es) at h fits =
    let here : e.0 ≡ at = h.0 in
    alike_more ns e es at h fits (alike ns es (at + piece_len e.1) h.1 (omega (arith, fits)))

alike_all : (es : List (ℕ × SeenPiece)) (ns : List ℕ) (len : ℕ) → IsStamped es ns len → IsAlike ns es 0
alike_all es ns len s =
    let whole = s.whole in
    let all = s.all in
    alike ns es 0 s.tiled.placed (omega (arith, whole, all))

pub stamped_tiled : (es : List (ℕ × SeenPiece)) (ns : List ℕ) (len : ℕ) → IsStamped es ns len → IsTiled (stamped ns es)
stamped_tiled es ns len s =
    let a = alike_all es ns len s in
    record { placed = a.placed; maximal = a.maximal s.tiled.maximal }

pub stamped_whole : (es : List (ℕ × SeenPiece)) (ns : List ℕ) (len : ℕ) → IsStamped es ns len → total_len (stamped ns es) ≡ len
stamped_whole es ns len s = (alike_all es ns len s).whole ∙ s.whole

pub stamped_bytes : (es : List (ℕ × SeenPiece)) (ns : List ℕ) (len : ℕ) → IsStamped es ns len → bytes_in (stamped ns es) ≡ stamp ns (bytes_in es)
stamped_bytes es ns len s = (alike_all es ns len s).bytes_are

-- the piece that holds a position
pub holds_stamped : (es : List (ℕ × SeenPiece)) (ns : List ℕ) (len at begin : ℕ) (p : SeenPiece) → IsStamped es ns len → Holds es at begin p → Holds (stamped ns es) at begin (stamped_piece (drop begin ns) p)
holds_stamped es ns len at begin p s h =
    let end = holds_end es at begin p s.tiled h in
    let to = h.to in
    let whole = s.whole in
    let all = s.all in
    record {
      before = stamped ns h.before;
      behind = stamped ns h.behind;
      is = ap (stamped ns) h.is ∙ stamped-append ns h.before ((begin, p) ∷ h.behind);
      from = h.from;
      to = omega (arith, to, piece_len-stamped (drop begin ns) p (omega (arith, end, whole, all, length-drop begin ns)));
    }

pub holds_behind : (es : List (ℕ × SeenPiece)) (ns : List ℕ) (len at begin : ℕ) (p : SeenPiece) (s : IsStamped es ns len) (h : Holds es at begin p) → (holds_stamped es ns len at begin p s h).behind ≡ stamped ns h.behind
unfolding holds_stamped
holds_behind es ns len at begin p s h = refl

pub slice_get-stamped : (ns : List ℕ) (es : List (ℕ × SeenPiece)) (n : ℕ) → slice_get (stamped ns es) n ≡ option_map (stamped_entry ns) (slice_get es n)
slice_get-stamped ns [] n = refl
slice_get-stamped ns (e ∷ es) zero = refl
slice_get-stamped ns (e ∷ es) (suc n) = slice_get-stamped ns es n

-- ---- what is kept

pub sound_tiled : (kept : Kept) (len : ℕ) → IsSound kept len → IsTiled (entries_of kept)
sound_tiled (Whole runs) len s = s.0
sound_tiled (Split marks numbers) len s = stamped_tiled marks.entries numbers.items len s

pub sound_whole : (kept : Kept) (len : ℕ) → IsSound kept len → total_len (entries_of kept) ≡ len
sound_whole (Whole runs) len s = s.1
sound_whole (Split marks numbers) len s = stamped_whole marks.entries numbers.items len s

pub sound_length : (kept : Kept) (len : ℕ) → IsSound kept len → length (bytes_in (entries_of kept)) ≡ len
sound_length kept len s = length-bytes_in (entries_of kept) ∙ sound_whole kept len s

-- ---- a change of marks, and of the numbers beside them

uninit_replaced : (ns : List ℕ) (bs : List AbstractByte) (from k : ℕ) → length ns ≡ length bs → from + k ≤ length bs
    → stamp ns (with_range_replaced bs from (replicate k Uninit)) ≡ with_range_replaced (stamp ns bs) from (replicate k Uninit)
uninit_replaced ns bs from k same inside =
    let own : length (take k (drop from ns)) ≡ length (replicate k Uninit) = omega (arith, length-take k (drop from ns), length-drop from ns, same, inside, length-replicate k Uninit) in
    ap (λ (ms : List ℕ). stamp ms (with_range_replaced bs from (replicate k Uninit))) (sym (replaced_same ns from k (omega (arith, same, inside))))
    ∙ stamp_replaced ns (take k (drop from ns)) bs (replicate k Uninit) from same own (omega (arith, inside, length-replicate k Uninit))
    ∙ ap (with_range_replaced (stamp ns bs) from) (stamp_uninit (take k (drop from ns)) k)

pub numbers_within : (p : SeenPiece) → length (numbers_of p) ≤ piece_len p
numbers_within (UninitPiece len) = omega arith
numbers_within (InitPiece own provenance) = omega arith

-- a piece is put: its mark, and its numbers beside it
pub put_anew : (es new : List (ℕ × SeenPiece)) (ns after : List ℕ) (len from : ℕ) (p : SeenPiece) → IsStamped es ns len → from + piece_len p ≤ len
    → IsReplaced es new from (bytes_of_piece (marked_piece (piece_len p) (mark_of p))) → after ≡ with_range_replaced ns from (numbers_of p)
    → IsStampedAnew es new ns after len from (bytes_of_piece p)
put_anew es new ns after len from p s inside replaced is =
    record {
      sound = now;
      bytes_are =
          stamped_bytes new after len now
          ∙ by_kind p inside replaced.bytes_are is
          ∙ ap (λ (bs : List AbstractByte). with_range_replaced bs from (bytes_of_piece p)) (sym (stamped_bytes es ns len s));
    }
  where
    all : length ns ≡ len
    all = s.all

    lens : length ns ≡ length (bytes_in es)
    lens = let whole = s.whole in omega (arith, all, whole, length-bytes_in es)

    now : IsStamped new after len
    now =
        let within = numbers_within p in
        record {
          tiled = replaced.tiled;
          whole = replaced.whole ∙ s.whole;
          all = ap length is ∙ length-with_range_replaced ns from (numbers_of p) (omega (arith, within, inside, all)) ∙ all;
        }

    by_kind : (q : SeenPiece) → from + piece_len q ≤ len → bytes_in new ≡ with_range_replaced (bytes_in es) from (bytes_of_piece (marked_piece (piece_len q) (mark_of q)))
        → after ≡ with_range_replaced ns from (numbers_of q) → stamp after (bytes_in new) ≡ with_range_replaced (stamp ns (bytes_in es)) from (bytes_of_piece q)
    by_kind (UninitPiece k) fits b a =
        let same : after ≡ ns = a ∙ replaced_by_none ns from in
        ap (λ (ms : List ℕ). stamp ms (bytes_in new)) same
        ∙ ap (stamp ns) b
        ∙ uninit_replaced ns (bytes_in es) from k lens (omega (arith, fits, lens, all))
    by_kind (InitPiece own provenance) fits b a =
        let zeros : length own ≡ length (map (λ n. Init n provenance) (replicate (length own) 0)) = omega (arith, length-map (replicate (length own) 0) (λ n. Init n provenance), length-replicate {A = ℕ} (length own) 0) in
        ap (λ (ms : List ℕ). stamp ms (bytes_in new)) a
        ∙ ap (stamp (with_range_replaced ns from own)) b
        ∙ stamp_replaced ns own (bytes_in es) (map (λ n. Init n provenance) (replicate (length own) 0)) from lens zeros (omega (arith, fits, lens, all, zeros))
        ∙ ap (with_range_replaced (stamp ns (bytes_in es)) from) (stamp_marked own provenance)

-- bytes of several marks are written: their marks, and their numbers beside them
pub mixed_anew : (es new : List (ℕ × SeenPiece)) (ns after : List ℕ) (len from : ℕ) (bytes : List AbstractByte) → IsStamped es ns len → from + length bytes ≤ len
    → IsReplaced es new from (map without_number bytes) → after ≡ with_range_replaced ns from (map number_of bytes) → IsStampedAnew es new ns after len from bytes
mixed_anew es new ns after len from bytes s inside replaced is =
    record {
      sound = now;
      bytes_are =
          stamped_bytes new after len now
          ∙ ap (λ (ms : List ℕ). stamp ms (bytes_in new)) is
          ∙ ap (stamp (with_range_replaced ns from (map number_of bytes))) replaced.bytes_are
          ∙ stamp_replaced ns (map number_of bytes) (bytes_in es) (map without_number bytes) from lens own (omega (arith, inside, lens, all, length-map bytes without_number))
          ∙ ap (with_range_replaced (stamp ns (bytes_in es)) from) (stamp_back bytes)
          ∙ ap (λ (bs : List AbstractByte). with_range_replaced bs from bytes) (sym (stamped_bytes es ns len s));
    }
  where
    all : length ns ≡ len
    all = s.all

    lens : length ns ≡ length (bytes_in es)
    lens = let whole = s.whole in omega (arith, all, whole, length-bytes_in es)

    own : length (map number_of bytes) ≡ length (map without_number bytes)
    own = length-map bytes number_of ∙ sym (length-map bytes without_number)

    now : IsStamped new after len
    now = record {
      tiled = replaced.tiled;
      whole = replaced.whole ∙ s.whole;
      all = ap length is ∙ length-with_range_replaced ns from (map number_of bytes) (omega (arith, inside, all, length-map bytes number_of)) ∙ all;
    }

-- ---- runs whose marks are set apart

-- the bytes up to a position are those of some pieces, and none behind it is initialised
pub record IsCopied (es marks : List (ℕ × SeenPiece)) (numbers : List ℕ) (len at : ℕ) : Type 0 where
  pub sound : IsStamped marks numbers len
  pub bytes_are : bytes_in (stamped numbers marks) ≡ take at (bytes_in es) ++ replicate (len - at) Uninit

all_left : (n : ℕ) → n ≡ n - 0
all_left n = omega arith

pub copied_none : (es marks : List (ℕ × SeenPiece)) (numbers : List ℕ) (len : ℕ) → IsTiled marks → total_len marks ≡ len → length numbers ≡ len → bytes_in marks ≡ replicate len Uninit
    → IsCopied es marks numbers len 0
copied_none es marks numbers len tiled whole all is =
    let s : IsStamped marks numbers len = record { tiled = tiled; whole = whole; all = all } in
    record {
      sound = s;
      bytes_are = stamped_bytes marks numbers len s ∙ ap (stamp numbers) is ∙ stamp_uninit numbers len ∙ ap (λ n. replicate n Uninit) (all_left len);
    }

pub copied_more : (es marks new : List (ℕ × SeenPiece)) (numbers after : List ℕ) (len at begin : ℕ) (p : SeenPiece) → IsTiled es → total_len es ≡ len → Holds es at begin p
    → IsCopied es marks numbers len at → IsStampedAnew marks new numbers after len begin (bytes_of_piece p) → IsCopied es new after len (begin + piece_len p)
copied_more es marks new numbers after len at begin p t whole h c anew =
    record {
      sound = anew.sound;
      bytes_are =
          anew.bytes_are
          ∙ ap (λ (bs : List AbstractByte). with_range_replaced bs begin (bytes_of_piece p)) c.bytes_are
          ∙ ap (λ (bs : List AbstractByte). bs ++ bytes_of_piece p ++ drop (begin + length (bytes_of_piece p)) (take at B ++ U)) first
          ∙ ap (λ (bs : List AbstractByte). F ++ bytes_of_piece p ++ bs) last
          ∙ ap (λ (bs : List AbstractByte). bs ++ replicate (len - (begin + piece_len p)) Uninit) (sym taken);
    }
  where
    B : List AbstractByte
    B = bytes_in es

    F : List AbstractByte
    F = bytes_in h.before

    U : List AbstractByte
    U = replicate (len - at) Uninit

    start : length F ≡ begin
    start = length-bytes_in h.before ∙ holds_start es at begin p t h

    end : begin + piece_len p ≤ len
    end = let all = holds_end es at begin p t h in omega (arith, all, whole)

    low : begin ≤ at
    low = h.from

    high : at < begin + piece_len p
    high = h.to

    own : length (bytes_of_piece p) ≡ piece_len p
    own = length-bytes_of_piece p

    at_len : length (take at B) ≡ at
    at_len = omega (arith, length-take at B, length-bytes_in es, whole, high, end)

    first : take begin (take at B ++ U) ≡ F
    first =
        take-append-le begin (take at B) U (omega (arith, at_len, low))
        ∙ take-take begin at B low
        ∙ ap (take begin) (holds_bytes es at begin p h)
        ∙ take-append-le begin F (bytes_of_piece p ++ bytes_in h.behind) (omega (arith, start))
        ∙ take_all begin F (omega (arith, start))

    last : drop (begin + length (bytes_of_piece p)) (take at B ++ U) ≡ replicate (len - (begin + piece_len p)) Uninit
    last =
        drop_in_append (begin + length (bytes_of_piece p)) (take at B) U (omega (arith, at_len, high, own))
        ∙ drop-replicate (begin + length (bytes_of_piece p) - length (take at B)) (len - at) Uninit
        ∙ ap (λ n. replicate n Uninit) (left (length (bytes_of_piece p)) (length (take at B)) own at_len)
      where
        left : (a b : ℕ) → a ≡ piece_len p → b ≡ at → len - at - (begin + a - b) ≡ len - (begin + piece_len p)
        left a b x y = omega (arith, x, y, low, high, end)

    taken : take (begin + piece_len p) B ≡ F ++ bytes_of_piece p
    taken =
        ap (take (begin + piece_len p)) (holds_bytes es at begin p h)
        ∙ take_in_append (begin + piece_len p) F (bytes_of_piece p ++ bytes_in h.behind)
        ∙ ap (λ (bs : List AbstractByte). bs ++ take (begin + piece_len p - length F) (bytes_of_piece p ++ bytes_in h.behind)) (take_all (begin + piece_len p) F (omega (arith, start)))
        ∙ ap (λ (bs : List AbstractByte). F ++ bs)
        (take-append-le (begin + piece_len p - length F) (bytes_of_piece p) (bytes_in h.behind) (omega (arith, start, own))
        ∙ take_all (begin + piece_len p - length F) (bytes_of_piece p) (omega (arith, start, own)))

pub copied_all : (es marks : List (ℕ × SeenPiece)) (numbers : List ℕ) (len at : ℕ) → total_len es ≡ len → len ≤ at → IsCopied es marks numbers len at → bytes_in (stamped numbers marks) ≡ bytes_in es
copied_all es marks numbers len at whole le c =
    c.bytes_are
    ∙ ap (λ (bs : List AbstractByte). bs ++ replicate (len - at) Uninit) (take_all at (bytes_in es) (omega (arith, length-bytes_in es, whole, le)))
    ∙ ap (λ n. bytes_in es ++ replicate n Uninit) none
    ∙ append-nil (bytes_in es)
  where
    none : len - at ≡ 0
    none = omega (arith, le)

-- ---- runs without numbers, and bytes of marks

pub together_marked : (a b : ℕ) (m : Mark) → together (marked_piece a m) (marked_piece b m) ≡ marked_piece (a + b) m
together_marked a b mark.Uninit = refl
together_marked a b (mark.Init provenance) = ap (λ (ns : List ℕ). InitPiece ns provenance) (replicate-append-replicate a b 0)

pub mark_of-marked : (len : ℕ) (m : Mark) → mark_of (marked_piece len m) ≡ m
mark_of-marked len mark.Uninit = refl
mark_of-marked len (mark.Init provenance) = refl

pub piece_len-marked : (len : ℕ) (m : Mark) → piece_len (marked_piece len m) ≡ len
piece_len-marked len mark.Uninit = refl
piece_len-marked len (mark.Init provenance) = length-replicate len 0

-- a part of a run is such a run
pub part_marked : (len from count : ℕ) (m : Mark) → from + count ≤ len → marked_piece count m ≡ first_piece (piece_past (marked_piece len m) from) count
part_marked len from count mark.Uninit inside = ap UninitPiece (least count (len - from) (omega (arith, inside)))
  where
    least : (a b : ℕ) → a ≤ b → a ≡ min a b
    least a b le = omega (arith, le)
part_marked len from count (mark.Init provenance) inside =
    ap (λ (ns : List ℕ). InitPiece ns provenance)
    (sym (ap (take count) (drop-replicate from len 0) ∙ take-replicate count (len - from) 0 (omega (arith, inside))))

-- the whole of a piece
pub part_whole : (p part : SeenPiece) (len : ℕ) → len ≡ piece_len p → part ≡ first_piece (piece_past p 0) len → part ≡ p
part_whole p part len all is =
    let past = piece_len-past p 0 in
    is ∙ first_piece-all (piece_past p 0) len (omega (arith, all, past)) ∙ piece_past-zero p

-- marks and numbers, counted by the numbers
pub stamped_here : (es : List (ℕ × SeenPiece)) (ns : List ℕ) (len : ℕ) → IsStamped es ns len → IsStamped es ns (length ns)
stamped_here es ns len s = subst (λ (n : ℕ). IsStamped es ns n) (sym s.all) s
