-- Pieces found by position.
use Rattle.mr_runs.proofs.Common.{◌≡◌, ◌≢◌, ℕ, ◌+◌, ◌-◌, ◌<◌, ◌≤◌, Bool, true, false, cond, List, [], ◌∷◌, ◌++◌, length, Some, None, refl, sym, ap, ◌∙◌, subst, ⊎_elim, arith, nat_cmp, Ordering, Less, Equal, Greater, slice_get, is_at, values_of, cases_lt, same_Some, AbstractByte, SeenPiece, bytes_of_piece, piece_len, AreMaximal, begun_from, bytes_in, found, total_len, Holds, IsPlaced, IsTiled}
use Rattle.std.proofs.Common.{◌&&◌, is_gt, is_le}
use Rattle.std.specs.Prelude.{is_some}
use Rattle.std.proofs.lemmas.Cmp.{ranked}
use Rattle.mr_base.proofs.Lists.{slice_get-append_left, slice_get-append_right}
use Rattle.mr_runs.proofs.MaximalLaws.{maximal_back, maximal_front}
use Rattle.mr_runs.proofs.PlacedLaws.{bytes_in-append, length-bytes_in, length-bytes_of_piece, none_behind, placed_back, placed_front, total_len-append, values_of-append}
use Rattle.mr_runs.proofs.Positions.{found_behind, found_here, found_later, same_at}

pub not_greater : (q k : ℕ) → q ≤ k → is_gt (nat_cmp q k) ≡ false
not_greater q k le = by_order (nat_cmp q k) refl
  where
    by_order : (o : Ordering) → o ≡ nat_cmp q k → is_gt (nat_cmp q k) ≡ false
    by_order Less e = ap is_gt (sym e)
    by_order Equal e = ap is_gt (sym e)
    by_order Greater e = let greater : k < q = ranked q k Greater e in absurd (omega arith)

pub less_or_equal : (q k : ℕ) → q ≤ k → is_le (nat_cmp q k) ≡ true
less_or_equal q k le = by_order (nat_cmp q k) refl
  where
    by_order : (o : Ordering) → o ≡ nat_cmp q k → is_le (nat_cmp q k) ≡ true
    by_order Less e = ap is_le (sym e)
    by_order Equal e = ap is_le (sym e)
    by_order Greater e = let greater : k < q = ranked q k Greater e in absurd (omega arith)

pub not_less_or_equal : (q k : ℕ) → k < q → is_le (nat_cmp q k) ≡ false
not_less_or_equal q k lt = by_order (nat_cmp q k) refl
  where
    by_order : (o : Ordering) → o ≡ nat_cmp q k → is_le (nat_cmp q k) ≡ false
    by_order Less e = let less : q < k = ranked q k Less e in absurd (omega arith)
    by_order Equal e = let same : q ≡ k = ranked q k Equal e in absurd (omega arith)
    by_order Greater e = ap is_le (sym e)

-- ---- parts of pieces that are tiled

pub tiled_front : (xs ys : List (ℕ × SeenPiece)) → IsTiled (xs ++ ys) → IsTiled xs
tiled_front xs ys t = record {
  placed = placed_front xs ys 0 t.placed;
  maximal = let P : List SeenPiece → Type 0 = λ ps. AreMaximal ps in maximal_front (values_of xs) (values_of ys) (subst P (values_of-append xs ys) t.maximal);
}

pub maximal_rest : (xs ys : List (ℕ × SeenPiece)) → IsTiled (xs ++ ys) → AreMaximal (values_of ys)
maximal_rest xs ys t = let P : List SeenPiece → Type 0 = λ ps. AreMaximal ps in maximal_back (values_of xs) (values_of ys) (subst P (values_of-append xs ys) t.maximal)

pub placed_rest : (xs ys : List (ℕ × SeenPiece)) → IsTiled (xs ++ ys) → IsPlaced ys (total_len xs)
placed_rest xs ys t = let P : ℕ → Type 0 = λ n. IsPlaced ys n in subst P (no_more (total_len xs)) (placed_back xs ys 0 t.placed)
  where
    no_more : (n : ℕ) → 0 + n ≡ n
    no_more n = omega arith

pub tiled_as : (es fs : List (ℕ × SeenPiece)) → es ≡ fs → IsTiled es → IsTiled fs
tiled_as es fs e t = let P : List (ℕ × SeenPiece) → Type 0 = λ xs. IsTiled xs in subst P e t

-- ---- the piece that holds a position

-- something begins at 0
pub tiled_begins : (es : List (ℕ × SeenPiece)) → IsTiled es → 0 < total_len es → found 0 es ≡ None → ⊥
tiled_begins [] t some none = omega arith
tiled_begins (e ∷ es) t some none = let no : Some e.1 ≡ None = sym (found_here 0 e es (sym t.placed.0)) ∙ none in cc

record IsSplit (es : List (ℕ × SeenPiece)) (q : ℕ) (p : SeenPiece) : Type 0 where
  before : List (ℕ × SeenPiece)
  behind : List (ℕ × SeenPiece)
  is : es ≡ before ++ (q, p) ∷ behind

split : (es : List (ℕ × SeenPiece)) (q : ℕ) (p : SeenPiece) → found q es ≡ Some p → IsSplit es q p
split [] q p none = absurd (cc)
split (e ∷ es) q p is = by_test (is_at (nat_cmp q) e.0) refl is (split es q p)
  where
    by_test : (b : Bool) → is_at (nat_cmp q) e.0 ≡ b → cond b (Some e.1) (found q es) ≡ Some p → (found q es ≡ Some p → IsSplit es q p) → IsSplit (e ∷ es) q p
    by_test true at here others =
        let keys : e.0 ≡ q = sym (same_at q e.0 at) in
        let pieces : e.1 ≡ p = same_Some e.1 p here in
        record { before = []; behind = es; is = λ i. (keys i, pieces i) ∷ es }
    by_test false at later others =
        let rest = others later in
        record { before = e ∷ rest.before; behind = rest.behind; is = ap (λ (xs : List (ℕ × SeenPiece)). e ∷ xs) rest.is }

-- what is behind a piece in a row of tiled ones begins where it ends, and is found
next_found : (before : List (ℕ × SeenPiece)) (e f : ℕ × SeenPiece) (fs : List (ℕ × SeenPiece)) → IsTiled (before ++ e ∷ f ∷ fs)
    → (f.0 ≡ e.0 + piece_len e.1) × (found f.0 (before ++ e ∷ f ∷ fs) ≡ Some f.1)
next_found before e f fs t =
    let rest : IsPlaced (e ∷ f ∷ fs) (total_len before) = placed_rest before (e ∷ f ∷ fs) t in
    let front = tiled_front before (e ∷ f ∷ fs) t in
    let here : e.0 ≡ total_len before = rest.0 in
    let next : f.0 ≡ total_len before + piece_len e.1 = rest.1.0 in
    let filled : 0 < piece_len e.1 = (maximal_rest before (e ∷ f ∷ fs) t).0 in
    let other : f.0 ≢ e.0 = λ same. omega arith in (
      (omega arith),
      found_behind before (e ∷ f ∷ fs) f.0 (none_behind before 0 f.0 front.placed front.maximal (omega arith))
          ∙ found_later f.0 e (f ∷ fs) other ∙ found_here f.0 f fs refl,
    )

pub holds_from_last : (es : List (ℕ × SeenPiece)) (at begin : ℕ) (p : SeenPiece) → IsTiled es → at < total_len es → found begin es ≡ Some p → begin ≤ at
    → ((q : ℕ) → q ≤ at → is_some (found q es) ≡ true → q ≤ begin) → Holds es at begin p
holds_from_last es at begin p t inside here le last =
    let parts = split es begin p here in
    record { before = parts.before; behind = parts.behind; is = parts.is; from = le; to = ends parts.before parts.behind parts.is }
  where
    ends : (before behind : List (ℕ × SeenPiece)) → es ≡ before ++ (begin, p) ∷ behind → at < begin + piece_len p
    ends before [] is =
        let t' = tiled_as es (before ++ (begin, p) ∷ []) is t in
        let start : begin ≡ total_len before = (placed_rest before ((begin, p) ∷ []) t').0 in
        omega (arith, ap total_len is, total_len-append before ((begin, p) ∷ []))
    ends before (f ∷ fs) is =
        let t' = tiled_as es (before ++ (begin, p) ∷ f ∷ fs) is t in
        let next = next_found before (begin, p) f fs t' in
        let next_is : f.0 ≡ begin + piece_len p = next.0 in
        let filled : 0 < piece_len p = (maximal_rest before ((begin, p) ∷ f ∷ fs) t').0 in
        let some : is_some (found f.0 es) ≡ true = ap (λ (xs : List (ℕ × SeenPiece)). is_some (found f.0 xs)) is ∙ ap is_some next.1 in
        ⊎_elim (λ lt. omega arith) (λ ge. let no : f.0 ≤ begin = last f.0 (omega arith) some in absurd (omega arith)) (cases_lt at f.0)

-- ---- what a found piece says of the bytes

pub holds_start : (es : List (ℕ × SeenPiece)) (at begin : ℕ) (p : SeenPiece) → IsTiled es → (h : Holds es at begin p) → total_len h.before ≡ begin
holds_start es at begin p t h = sym (placed_rest h.before ((begin, p) ∷ h.behind) (tiled_as es _ h.is t)).0

-- the piece is found where it begins
pub holds_found : (es : List (ℕ × SeenPiece)) (at begin : ℕ) (p : SeenPiece) → IsTiled es → Holds es at begin p → found begin es ≡ Some p
holds_found es at begin p t h =
    let whole = tiled_as es (h.before ++ (begin, p) ∷ h.behind) h.is t in
    let front = tiled_front h.before ((begin, p) ∷ h.behind) whole in
    let start : begin ≡ total_len h.before = (placed_rest h.before ((begin, p) ∷ h.behind) whole).0 in
    ap (found begin) h.is
    ∙ found_behind h.before ((begin, p) ∷ h.behind) begin (none_behind h.before 0 begin front.placed front.maximal (omega arith))
    ∙ found_here begin (begin, p) h.behind refl

-- it lies within all
pub holds_end : (es : List (ℕ × SeenPiece)) (at begin : ℕ) (p : SeenPiece) → IsTiled es → (h : Holds es at begin p) → begin + piece_len p + total_len h.behind ≡ total_len es
holds_end es at begin p t h =
    omega (arith, ap total_len h.is, total_len-append h.before ((begin, p) ∷ h.behind), holds_start es at begin p t h)

pub holds_bytes : (es : List (ℕ × SeenPiece)) (at begin : ℕ) (p : SeenPiece) → (h : Holds es at begin p) → bytes_in es ≡ bytes_in h.before ++ (bytes_of_piece p ++ bytes_in h.behind)
holds_bytes es at begin p h = ap bytes_in h.is ∙ bytes_in-append h.before ((begin, p) ∷ h.behind)

-- the byte at the position is the piece's
pub byte_of_holder : (es : List (ℕ × SeenPiece)) (at begin : ℕ) (p : SeenPiece) (b : AbstractByte) → IsTiled es → Holds es at begin p
    → slice_get (bytes_of_piece p) (at - begin) ≡ Some b → slice_get (bytes_in es) at ≡ Some b
byte_of_holder es at begin p b t h is =
    let start : total_len h.before ≡ begin = holds_start es at begin p t h in
    let len : length (bytes_in h.before) ≡ begin = length-bytes_in h.before ∙ start in
    let from : begin ≤ at = h.from in
    let to : at < begin + piece_len p = h.to in
    ap (λ (bs : List AbstractByte). slice_get bs at) (holds_bytes es at begin p h)
    ∙ slice_get-append_right (bytes_in h.before) (bytes_of_piece p ++ bytes_in h.behind) at (omega arith)
    ∙ ap (λ n. slice_get (bytes_of_piece p ++ bytes_in h.behind) (at - n)) len
    ∙ slice_get-append_left (bytes_of_piece p) (bytes_in h.behind) (at - begin) (omega (arith, length-bytes_of_piece p))
    ∙ is

-- ---- the pieces from one on

from_none : (xs ys : List (ℕ × SeenPiece)) (at k : ℕ) → IsPlaced xs at → AreMaximal (values_of xs) → at + total_len xs ≤ k → begun_from k (xs ++ ys) ≡ begun_from k ys
from_none [] ys at k h m le = refl
from_none (e ∷ xs) ys at k h m le =
    let begin : e.0 ≡ at = h.0 in
    let filled : 0 < piece_len e.1 = m.0 in
    ap (λ b. cond (b && true) (e ∷ begun_from k (xs ++ ys)) (begun_from k (xs ++ ys))) (not_less_or_equal k e.0 (omega arith))
    ∙ from_none xs ys (at + piece_len e.1) k h.1 m.2 (omega arith)

from_all : (es : List (ℕ × SeenPiece)) (at k : ℕ) → IsPlaced es at → k ≤ at → begun_from k es ≡ es
from_all [] at k h le = refl
from_all (e ∷ es) at k h le =
    let begin : e.0 ≡ at = h.0 in
    ap (λ b. cond (b && true) (e ∷ begun_from k es) (begun_from k es)) (less_or_equal k e.0 (omega arith))
    ∙ ap (λ (xs : List (ℕ × SeenPiece)). e ∷ xs) (from_all es (at + piece_len e.1) k h.1 (omega arith))

pub begun_from-holder : (es : List (ℕ × SeenPiece)) (at begin : ℕ) (p : SeenPiece) → IsTiled es → (h : Holds es at begin p) → begun_from begin es ≡ (begin, p) ∷ h.behind
begun_from-holder es at begin p t h =
    let rest = (begin, p) ∷ h.behind in
    let t' = tiled_as es (h.before ++ rest) h.is t in
    let front = tiled_front h.before rest t' in
    let start : total_len h.before ≡ begin = holds_start es at begin p t h in
    ap (begun_from begin) h.is
    ∙ from_none h.before rest 0 begin front.placed front.maximal (omega arith)
    ∙ from_all rest (total_len h.before) begin (placed_rest h.before rest t') (omega arith)
