-- What windows on pieces show.
use Rattle.mr_runs.proofs.Common.{◌≡◌, ℕ, zero, suc, ◌+◌, ◌-◌, ◌<◌, ◌≤◌, ◌⊎◌, cond, List, [], ◌∷◌, ◌++◌, length, map, replicate, get_or, take, drop, Some, None, Option, refl, sym, ap, ◌∙◌, inl, inr, arith, length-drop, length-take, take-take, take_all, drop-drop, ⊎_elim, min, option_map, slice_get, AllocId, values_of, cases_lt, length-replicate, AbstractByte, Uninit, Init, SeenPiece, UninitPiece, InitPiece, bytes_of_piece, bytes_of_pieces, mark_of, piece_len, AreMaximal, Kept, lent_pieces, IsLent, bytes_in, total_len, Holds, IsPlaced, IsTiled, IsStamped, entries_of, stamped, stamped_entry, stamped_piece, clipped_piece, first_piece, first_pieces, piece_past, pieces_past}
use Rattle.std.proofs.Common.{◌^◌, le-ltb, lt-ltb}
use Rattle.std.proofs.lemmas.List.{drop-take}
use Rattle.mr_base.proofs.Lists.{slice_get-drop, slice_get-take}
use Rattle.mr_runs.specs.declared.mark.Mark.TheVariants as mark
use Rattle.mr_runs.proofs.FindLaws.{holds_start, placed_rest, tiled_as}
use Rattle.mr_runs.proofs.PlacedLaws.{total_len-append, values_of-append}
use Rattle.mr_runs.proofs.StampLaws.{holds_behind, holds_stamped, slice_get-stamped, sound_length, sound_tiled, stamped_tiled}
use Rattle.mr_runs.proofs.WindowLaws.{bytes_of_pieces-first, bytes_of_pieces-past, maximal_first, maximal_past, piece_len-past, piece_past-zero}

-- ---- the bytes of a window

pub window_bytes : (es : List (ℕ × SeenPiece)) (from len : ℕ) → bytes_of_pieces (first_pieces (pieces_past (values_of es) from) len) ≡ take len (drop from (bytes_in es))
window_bytes es from len = bytes_of_pieces-first (pieces_past (values_of es) from) len ∙ ap (take len) (bytes_of_pieces-past (values_of es) from)

pub window_maximal : (es : List (ℕ × SeenPiece)) (from len : ℕ) → IsTiled es → AreMaximal (first_pieces (pieces_past (values_of es) from) len)
window_maximal es from len t = maximal_first (pieces_past (values_of es) from) len (maximal_past (values_of es) from t.maximal)

pub lent_len : (o : Option Kept) (from len : ℕ) → IsLent o from len → len ≡ length (bytes_of_pieces (lent_pieces o from len))
lent_len None from len h = h.0
lent_len (Some kept) from len h =
    let inside : from + len ≤ h.0 = h.2 in
    let es = entries_of kept in
    sym (
    ap length (window_bytes es from len)
    ∙ omega (arith, inside, length-take len (drop from (bytes_in es)), length-drop from (bytes_in es), sound_length kept h.0 h.1)
    )

-- a window on a window
pub part_bytes : (bs : List AbstractByte) (begin whole from len : ℕ) → from + len ≤ whole → take len (drop (begin + from) bs) ≡ take len (drop from (take whole (drop begin bs)))
part_bytes bs begin whole from len inside =
    let split : from + (whole - from) ≡ whole = omega arith in
    let low : len ≤ whole - from = omega arith in
    ap (take len) (sym (drop-drop from begin bs))
    ∙ sym (take-take len (whole - from) (drop from (drop begin bs)) low)
    ∙ ap (take len) (sym (drop-take from (whole - from) (drop begin bs)))
    ∙ ap (λ n. take len (drop from (take n (drop begin bs)))) split

pub lent_part_bytes : (o : Option Kept) (begin whole from len : ℕ) → IsLent o begin whole → from + len ≤ whole
    → bytes_of_pieces (lent_pieces o (begin + from) len) ≡ take len (drop from (bytes_of_pieces (lent_pieces o begin whole)))
lent_part_bytes None begin whole from len h inside = nothing from len
  where
    nothing : (m n : ℕ) → ◌≡◌ {A = List AbstractByte} [] (take n (drop m []))
    nothing zero zero = refl
    nothing zero (suc n) = refl
    nothing (suc m) zero = refl
    nothing (suc m) (suc n) = refl
lent_part_bytes (Some kept) begin whole from len h inside =
    let es = entries_of kept in
    window_bytes es (begin + from) len
    ∙ part_bytes (bytes_in es) begin whole from len inside
    ∙ ap (λ (bs : List AbstractByte). take len (drop from bs)) (sym (window_bytes es begin whole))

pub lent_maximal : (o : Option Kept) (begin whole from len : ℕ) → IsLent o begin whole → AreMaximal (lent_pieces o (begin + from) len)
lent_maximal None begin whole from len h = tt
lent_maximal (Some kept) begin whole from len h = window_maximal (entries_of kept) (begin + from) len (sound_tiled kept h.0 h.1)

-- a window of one byte within a window
pub lent_byte : (kept : Kept) (from len at : ℕ) → at < len → IsLent (Some kept) from len → IsLent (Some kept) (from + at) 1
lent_byte kept from len at lt h =
    let inside : from + len ≤ h.0 = h.2 in
    let fits : from + len < 2 ^ 64 = h.3 in
    (h.0, h.1, omega (arith, inside, lt), omega (arith, fits, lt))

pub window_byte : (es : List (ℕ × SeenPiece)) (from len at : ℕ) (b : AbstractByte) → at < len → slice_get (bytes_in es) (from + at) ≡ Some b
    → slice_get (bytes_of_pieces (first_pieces (pieces_past (values_of es) from) len)) at ≡ Some b
window_byte es from len at b lt is =
    ap (λ (bs : List AbstractByte). slice_get bs at) (window_bytes es from len)
    ∙ slice_get-take (drop from (bytes_in es)) len at lt
    ∙ slice_get-drop (bytes_in es) from at
    ∙ is

-- ---- the pieces of a window, by number

-- what a window has of an entry
abbrev pub clipped_entry : Option (ℕ × SeenPiece) → ℕ → ℕ → Option SeenPiece
clipped_entry None from to = None
clipped_entry (Some e) from to = clipped_piece e.1 e.0 from to

past_to : (before : List (ℕ × SeenPiece)) (p : SeenPiece) (ps : List SeenPiece) (n : ℕ) → total_len before ≤ n → n < total_len before + piece_len p
    → pieces_past (values_of before ++ p ∷ ps) n ≡ piece_past p (n - total_len before) ∷ ps
past_to [] p ps n low high =
    ap (λ b. cond b (piece_past p n ∷ ps) (pieces_past ps (n - piece_len p))) (lt-ltb n (piece_len p) (omega arith))
    ∙ ap (λ k. piece_past p k ∷ ps) (same n)
  where
    same : (n : ℕ) → n ≡ n - 0
    same n = omega arith
past_to (e ∷ before) p ps n low high =
    ap (λ b. cond b (piece_past e.1 n ∷ values_of before ++ p ∷ ps) (pieces_past (values_of before ++ p ∷ ps) (n - piece_len e.1))) (le-ltb n (piece_len e.1) (omega arith))
    ∙ past_to before p ps (n - piece_len e.1) (omega arith) (omega arith)
    ∙ ap (λ k. piece_past p k ∷ ps) (same n (piece_len e.1) (total_len before))
  where
    same : (n a b : ℕ) → n - a - b ≡ n - (a + b)
    same n a b = omega arith

first_of : (p : SeenPiece) (ps : List SeenPiece) (n : ℕ) → 0 < n → first_pieces (p ∷ ps) n ≡ first_piece p n ∷ first_pieces ps (n - piece_len p)
first_of p ps zero some = absurd (omega arith)
first_of p ps (suc n) some = refl

pub none_of : (ps : List SeenPiece) (n : ℕ) → n ≡ 0 → first_pieces ps n ≡ []
none_of [] n none = refl
none_of (p ∷ ps) zero none = refl
none_of (p ∷ ps) (suc n) none = absurd (omega arith)

clipped_before : (e : ℕ × SeenPiece) (from to : ℕ) → e.0 < to → clipped_entry (Some e) from to ≡ Some (first_piece (piece_past e.1 (from - e.0)) (to - e.0 - (from - e.0)))
clipped_before e from to lt = ap (λ b. cond b (Some (first_piece (piece_past e.1 (from - e.0)) (to - e.0 - (from - e.0)))) None) (lt-ltb e.0 to lt)

clipped_behind : (e : ℕ × SeenPiece) (from to : ℕ) → to ≤ e.0 → clipped_entry (Some e) from to ≡ None
clipped_behind e from to le = ap (λ b. cond b (Some (first_piece (piece_past e.1 (from - e.0)) (to - e.0 - (from - e.0)))) None) (le-ltb e.0 to le)

-- nothing of what begins behind the window
all_clipped : (es : List (ℕ × SeenPiece)) (at from to n : ℕ) → IsPlaced es at → to ≤ at → clipped_entry (slice_get es n) from to ≡ None
all_clipped [] at from to n h le = refl
all_clipped (e ∷ es) at from to zero h le = let begin : e.0 ≡ at = h.0 in clipped_behind e from to (omega arith)
all_clipped (e ∷ es) at from to (suc n) h le = all_clipped es (at + piece_len e.1) from to n h.1 (omega arith)

less_more : (a b c : ℕ) → b - a - c ≡ b - (a + c)
less_more a b c = omega arith

-- the pieces that begin at or behind where the window does
nth_behind : (es : List (ℕ × SeenPiece)) (at from to n : ℕ) → IsPlaced es at → from ≤ at → slice_get (first_pieces (values_of es) (to - at)) n ≡ clipped_entry (slice_get es n) from to
nth_behind [] at from to n h le = refl
nth_behind (e ∷ es) at from to n h le = by_place n (cases_lt at to) (λ m. nth_behind es (at + piece_len e.1) from to m h.1 (omega arith))
  where
    by_place : (n : ℕ) → (at < to) ⊎ (to ≤ at)
        → ((m : ℕ) → slice_get (first_pieces (values_of es) (to - (at + piece_len e.1))) m ≡ clipped_entry (slice_get es m) from to)
        → slice_get (first_pieces (e.1 ∷ values_of es) (to - at)) n ≡ clipped_entry (slice_get (e ∷ es) n) from to
    by_place n (inr ge) rest =
        ap (λ (ps : List SeenPiece). slice_get ps n) (none_of (e.1 ∷ values_of es) (to - at) (omega arith)) ∙ sym (all_clipped (e ∷ es) at from to n h ge)
    by_place zero (inl lt) rest =
        let begin : e.0 ≡ at = h.0 in
        let none : from - e.0 ≡ 0 = omega arith in
        let all : to - at ≡ to - e.0 - (from - e.0) = omega arith in
        ap (λ (ps : List SeenPiece). slice_get ps 0) (first_of e.1 (values_of es) (to - at) (omega arith))
        ∙ ap (λ k. Some (first_piece e.1 k)) all
        ∙ ap (λ (q : SeenPiece). Some (first_piece q (to - e.0 - (from - e.0)))) (sym (piece_past-zero e.1) ∙ ap (piece_past e.1) (sym none))
        ∙ sym (clipped_before e from to (omega arith))
    by_place (suc n) (inl lt) rest =
        ap (λ (ps : List SeenPiece). slice_get ps (suc n)) (first_of e.1 (values_of es) (to - at) (omega arith))
        ∙ ap (λ k. slice_get (first_pieces (values_of es) k) n) (less_more at to (piece_len e.1))
        ∙ rest n

-- the pieces of a window, counted from the one that holds its first position
pub piece_from_holder : (es : List (ℕ × SeenPiece)) (from len n first : ℕ) (p : SeenPiece) → IsTiled es → (h : Holds es from first p) → 0 < len
    → slice_get (first_pieces (pieces_past (values_of es) from) len) n ≡ clipped_entry (slice_get ((first, p) ∷ h.behind) n) from (from + len)
piece_from_holder es from len n first p t h some =
    ap (λ (ps : List SeenPiece). slice_get (first_pieces ps len) n) pieces
    ∙ ap (λ (ps : List SeenPiece). slice_get ps n) (first_of (piece_past p (from - first)) (values_of h.behind) len some)
    ∙ by_number n
  where
    start : total_len h.before ≡ first
    start = holds_start es from first p t h

    pieces : pieces_past (values_of es) from ≡ piece_past p (from - first) ∷ values_of h.behind
    pieces =
        let low : first ≤ from = h.from in
        let high : from < first + piece_len p = h.to in
        ap (λ (xs : List (ℕ × SeenPiece)). pieces_past (values_of xs) from) h.is
        ∙ ap (λ (ps : List SeenPiece). pieces_past ps from) (values_of-append h.before ((first, p) ∷ h.behind))
        ∙ past_to h.before p (values_of h.behind) from (omega (arith, start)) (omega (arith, start))
        ∙ ap (λ k. piece_past p (from - k) ∷ values_of h.behind) start

    behind_placed : IsPlaced h.behind (total_len h.before + piece_len p)
    behind_placed = (placed_rest h.before ((first, p) ∷ h.behind) (tiled_as es (h.before ++ (first, p) ∷ h.behind) h.is t)).1

    by_number : (n : ℕ) → slice_get (first_piece (piece_past p (from - first)) len ∷ first_pieces (values_of h.behind) (len - piece_len (piece_past p (from - first)))) n
        ≡ clipped_entry (slice_get ((first, p) ∷ h.behind) n) from (from + len)
    by_number zero =
        let low : first ≤ from = h.from in
        let all : len ≡ from + len - first - (from - first) = omega arith in
        ap (λ k. Some (first_piece (piece_past p (from - first)) k)) all
        ∙ sym (clipped_before (first, p) from (from + len) (omega arith))
    by_number (suc n) =
        let low : first ≤ from = h.from in
        let high : from < first + piece_len p = h.to in
        let left : len - piece_len (piece_past p (from - first)) ≡ from + len - (total_len h.before + piece_len p) = omega (arith, piece_len-past p (from - first), start) in
        ap (λ k. slice_get (first_pieces (values_of h.behind) k) n) left
        ∙ nth_behind h.behind (total_len h.before + piece_len p) from (from + len) n behind_placed (omega (arith, start))

nth_begins : (es : List (ℕ × SeenPiece)) (at n : ℕ) (e : ℕ × SeenPiece) → IsPlaced es at → slice_get es n ≡ Some e → at ≤ e.0
nth_begins [] at n e h is = absurd (cc)
nth_begins (f ∷ es) at zero e h is = let begin : f.0 ≡ at = h.0 in let same : f ≡ e = cc in omega (arith, ap (λ (x : ℕ × SeenPiece). x.0) same)
nth_begins (f ∷ es) at (suc n) e h is = let later : at + piece_len f.1 ≤ e.0 = nth_begins es (at + piece_len f.1) n e h.1 is in omega arith

-- each of these pieces ends behind the position that the first one holds
pub nth_ends : (es : List (ℕ × SeenPiece)) (from first : ℕ) (p : SeenPiece) (n : ℕ) (e : ℕ × SeenPiece) → IsTiled es → (h : Holds es from first p)
    → slice_get ((first, p) ∷ h.behind) n ≡ Some e → from < e.0 + piece_len e.1
nth_ends es from first p zero e t h is =
    let same : (first, p) ≡ e = cc in
    let high : from < first + piece_len p = h.to in
    omega (arith, ap (λ (x : ℕ × SeenPiece). x.0) same, ap (λ (x : ℕ × SeenPiece). piece_len x.1) same)
nth_ends es from first p (suc n) e t h is =
    let rest = placed_rest h.before ((first, p) ∷ h.behind) (tiled_as es (h.before ++ (first, p) ∷ h.behind) h.is t) in
    let high : from < first + piece_len p = h.to in
    let start : total_len h.before ≡ first = holds_start es from first p t h in
    let later : total_len h.before + piece_len p ≤ e.0 = nth_begins h.behind (total_len h.before + piece_len p) n e rest.1 is in
    omega arith

-- ---- the same, where the numbers stand apart from the marks

-- the pieces of a window, counted from the run that holds its first position
pub stamped_piece_from : (es : List (ℕ × SeenPiece)) (ns : List ℕ) (all from len n first : ℕ) (p : SeenPiece) → IsStamped es ns all → (h : Holds es from first p) → 0 < len
    → slice_get (first_pieces (pieces_past (values_of (stamped ns es)) from) len) n
    ≡ clipped_entry (option_map (stamped_entry ns) (slice_get ((first, p) ∷ h.behind) n)) from (from + len)
stamped_piece_from es ns all from len n first p s h some =
    piece_from_holder (stamped ns es) from len n first (stamped_piece (drop first ns) p) (stamped_tiled es ns all s) (holds_stamped es ns all from first p s h) some
    ∙ ap (λ (xs : List (ℕ × SeenPiece)). clipped_entry (slice_get ((first, stamped_piece (drop first ns) p) ∷ xs) n) from (from + len)) (holds_behind es ns all from first p s h)
    ∙ ap (λ o. clipped_entry o from (from + len)) (slice_get-stamped ns ((first, p) ∷ h.behind) n)

lower : (m n : ℕ) → m ≤ n → m ≡ min m n
lower m n h = omega (arith, h)

upper : (m n : ℕ) → n ≤ m → n ≡ min m n
upper m n h = omega (arith, h)

take_of_take : (a b : ℕ) (xs : List ℕ) → take a (take b xs) ≡ take (min a b) xs
take_of_take a b xs = ⊎_elim
    (λ less. take-take a b xs (omega arith) ∙ ap (λ k. take k xs) (lower a b (omega arith)))
    (λ more. take_all a (take b xs) (omega (arith, length-take b xs)) ∙ ap (λ k. take k xs) (upper a b more))
    (cases_lt a b)

-- what a window has of a piece that takes its numbers from a list
pub clipped_stamped : (ns own : List ℕ) (provenance : Option AllocId) (begin from to : ℕ) → begin < to → from ≤ to → from < begin + length own → begin + length own ≤ length ns
    → clipped_piece (InitPiece (take (length own) (drop begin ns)) provenance) begin from to
    ≡ Some (InitPiece (take (min (to - begin - (from - begin)) (length own - (from - begin))) (drop (begin + (from - begin)) ns)) provenance)
clipped_stamped ns own provenance begin from to lt le inside all =
    ap (λ b. cond b (Some (first_piece (piece_past (InitPiece (take (length own) (drop begin ns)) provenance) (from - begin)) (to - begin - (from - begin)))) None) (lt-ltb begin to lt)
    ∙ ap (λ (ms : List ℕ). Some (InitPiece ms provenance)) numbers
  where
    split : (from - begin) + (length own - (from - begin)) ≡ length own
    split = omega arith

    rest : drop (from - begin) (take (length own) (drop begin ns)) ≡ take (length own - (from - begin)) (drop (begin + (from - begin)) ns)
    rest =
        ap (λ k. drop (from - begin) (take k (drop begin ns))) (sym split)
        ∙ drop-take (from - begin) (length own - (from - begin)) (drop begin ns)
        ∙ ap (take (length own - (from - begin))) (drop-drop (from - begin) begin ns)

    numbers : take (to - begin - (from - begin)) (drop (from - begin) (take (length own) (drop begin ns)))
        ≡ take (min (to - begin - (from - begin)) (length own - (from - begin))) (drop (begin + (from - begin)) ns)
    numbers = ap (take (to - begin - (from - begin))) rest ∙ take_of_take (to - begin - (from - begin)) (length own - (from - begin)) (drop (begin + (from - begin)) ns)

pub clipped_none : (p : SeenPiece) (begin from to : ℕ) → to ≤ begin → clipped_piece p begin from to ≡ None
clipped_none p begin from to le = clipped_behind (begin, p) from to le

pub clipped_marked_uninit : (len begin from to count : ℕ) → begin < to → count ≡ min (to - begin - (from - begin)) (len - (from - begin))
    → clipped_piece (UninitPiece len) begin from to ≡ Some (UninitPiece count)
clipped_marked_uninit len begin from to count lt is = clipped_before (begin, UninitPiece len) from to lt ∙ ap (λ n. Some (UninitPiece n)) (sym is)

pub clipped_marked_init : (ns part : List ℕ) (len : ℕ) (provenance : Option AllocId) (begin from to skipped count : ℕ) → begin < to → from ≤ to → from < begin + len → begin + len ≤ length ns
    → skipped ≡ from - begin → count ≡ min (to - begin - skipped) (len - skipped) → part ≡ take count (drop (begin + skipped) ns)
    → clipped_piece (stamped_piece (drop begin ns) (InitPiece (replicate len 0) provenance)) begin from to ≡ Some (InitPiece part provenance)
clipped_marked_init ns part len provenance begin from to skipped count lt le inside all skip is part_is =
    let many : length (replicate len 0) ≡ len = length-replicate len 0 in
    clipped_stamped ns (replicate len 0) provenance begin from to lt le (omega (arith, many, inside)) (omega (arith, many, all))
    ∙ ap (λ k. Some (InitPiece (take (min (to - begin - (from - begin)) (k - (from - begin))) (drop (begin + (from - begin)) ns)) provenance)) many
    ∙ ap (λ s. Some (InitPiece (take (min (to - begin - s) (len - s)) (drop (begin + s) ns)) provenance)) (sym skip)
    ∙ ap (λ k. Some (InitPiece (take k (drop (begin + skipped) ns)) provenance)) (sym is)
    ∙ ap (λ (ms : List ℕ). Some (InitPiece ms provenance)) (sym part_is)

-- ---- a byte, where the numbers stand apart from the marks

pub byte_stamped_uninit : (p : SeenPiece) (ms : List ℕ) (i : ℕ) → mark_of p ≡ mark.Uninit → i < piece_len p → slice_get (bytes_of_piece (stamped_piece ms p)) i ≡ Some Uninit
byte_stamped_uninit (InitPiece own provenance) ms i none inside = absurd (cc)
byte_stamped_uninit (UninitPiece len) ms i none inside = here len i inside
  where
    here : (n i : ℕ) → i < n → slice_get (replicate n Uninit) i ≡ Some Uninit
    here zero i lt = absurd (omega (arith, lt))
    here (suc n) zero lt = refl
    here (suc n) (suc i) lt = here n i (omega (arith, lt))

-- a number that is read
got : (ns : List ℕ) (i n : ℕ) → i < length ns → n ≡ get_or ns i n → slice_get ns i ≡ Some n
got [] i n lt is = absurd (omega (arith, lt))
got (m ∷ ns) zero n lt is = ap Some (sym is)
got (m ∷ ns) (suc i) n lt is = got ns i n (omega (arith, lt)) is

got_mapped : {X Y : Type 0} (f : X → Y) (xs : List X) (i : ℕ) → slice_get (map f xs) i ≡ option_map f (slice_get xs i)
got_mapped f [] i = refl
got_mapped f (x ∷ xs) zero = refl
got_mapped f (x ∷ xs) (suc i) = got_mapped f xs i

pub byte_stamped_init : (p : SeenPiece) (ns : List ℕ) (begin at : ℕ) (provenance : Option AllocId) (n : ℕ) → mark_of p ≡ mark.Init provenance → begin ≤ at → at < begin + piece_len p → at < length ns
    → n ≡ get_or ns at n → slice_get (bytes_of_piece (stamped_piece (drop begin ns) p)) (at - begin) ≡ Some (Init n provenance)
byte_stamped_init (UninitPiece len) ns begin at provenance n some low high inside is = absurd (cc)
byte_stamped_init (InitPiece own its) ns begin at provenance n some low high inside is =
    let same : its ≡ provenance = cc in
    got_mapped (λ m. Init m its) (take (length own) (drop begin ns)) (at - begin)
    ∙ ap (option_map (λ m. Init m its))
    (slice_get-take (drop begin ns) (length own) (at - begin) (omega (arith, low, high))
    ∙ slice_get-drop ns begin (at - begin)
    ∙ ap (slice_get ns) split
    ∙ got ns at n inside is)
    ∙ ap (λ q. Some (Init n q)) same
  where
    split : begin + (at - begin) ≡ at
    split = omega (arith, low)

-- each piece ends where all do, or before
nth_fits : (es : List (ℕ × SeenPiece)) (at n : ℕ) (e : ℕ × SeenPiece) → IsPlaced es at → slice_get es n ≡ Some e → e.0 + piece_len e.1 ≤ at + total_len es
nth_fits [] at n e h is = absurd (cc)
nth_fits (f ∷ es) at zero e h is =
    let begin : f.0 ≡ at = h.0 in
    let same : f ≡ e = cc in
    omega (arith, begin, ap (λ (x : ℕ × SeenPiece). x.0) same, ap (λ (x : ℕ × SeenPiece). piece_len x.1) same)
nth_fits (f ∷ es) at (suc n) e h is = let rest = nth_fits es (at + piece_len f.1) n e h.1 is in omega (arith, rest)

pub nth_within : (es : List (ℕ × SeenPiece)) (from first : ℕ) (p : SeenPiece) (n : ℕ) (e : ℕ × SeenPiece) → IsTiled es → (h : Holds es from first p)
    → slice_get ((first, p) ∷ h.behind) n ≡ Some e → e.0 + piece_len e.1 ≤ total_len es
nth_within es from first p n e t h is =
    let rest = placed_rest h.before ((first, p) ∷ h.behind) (tiled_as es (h.before ++ (first, p) ∷ h.behind) h.is t) in
    let fits = nth_fits ((first, p) ∷ h.behind) (total_len h.before) n e rest is in
    omega (arith, fits, ap total_len h.is, total_len-append h.before ((first, p) ∷ h.behind))
