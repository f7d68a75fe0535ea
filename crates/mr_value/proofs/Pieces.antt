-- Bytes into which pieces are written, each at its offset.
use Rattle.mr_value.proofs.Common.{◌≡◌, ℕ, ◌+◌, ◌-◌, ◌<◌, ◌≤◌, ◌⊎◌, ⊎_elim, Bool, true, false, List, [], ◌∷◌, ◌++◌, length, get_or, take, drop, refl, ap, ◌∙◌, arith, length-append, length-take, nat_tests, get_or-take, get_or-drop, get_or_append_left, get_or-append_right, ◌||◌, or_parts, AbstractByte, Uninit, is_in, with_range_replaced, length-with_range_replaced, Bytes}
use Rattle.mr_base.specs.Pairs.{is_meeting}

-- the byte at an offset; past the end none is initialised
abbrev pub byte_at : Bytes → ℕ → AbstractByte
byte_at bytes i = get_or bytes i Uninit

pub byte_before : (old : Bytes) (from : ℕ) (new : Bytes) (i : ℕ) → from + length new ≤ length old → i < from → byte_at (with_range_replaced old from new) i ≡ byte_at old i
byte_before old from new i inside p =
    let front : length (take from old) ≡ from = omega (arith, length-take from old) in
    let both = length-append (take from old) new in
    get_or_append_left (take from old ++ new) (drop (from + length new) old) Uninit i (omega arith)
    ∙ get_or_append_left (take from old) new Uninit i (omega arith)
    ∙ get_or-take from old i Uninit p

pub byte_inside : (old : Bytes) (from : ℕ) (new : Bytes) (i : ℕ) → from + length new ≤ length old → from ≤ i → i < from + length new → byte_at (with_range_replaced old from new) i ≡ byte_at new (i - from)
byte_inside old from new i inside p q =
    let front : length (take from old) ≡ from = omega (arith, length-take from old) in
    let both = length-append (take from old) new in
    get_or_append_left (take from old ++ new) (drop (from + length new) old) Uninit i (omega arith)
    ∙ get_or-append_right (take from old) new from i Uninit front p

pub byte_behind : (old : Bytes) (from : ℕ) (new : Bytes) (i : ℕ) → from + length new ≤ length old → from + length new ≤ i → byte_at (with_range_replaced old from new) i ≡ byte_at old i
byte_behind old from new i inside p =
    let front : length (take from old) ≡ from = omega (arith, length-take from old) in
    let both : length (take from old ++ new) ≡ from + length new = omega (arith, length-append (take from old) new) in
    let place : from + length new + (i - (from + length new)) ≡ i = omega arith in
    get_or-append_right (take from old ++ new) (drop (from + length new) old) (from + length new) i Uninit both p
    ∙ get_or-drop (from + length new) old (i - (from + length new)) Uninit
    ∙ ap (byte_at old) place

-- a piece is an offset and bytes
abbrev pub with_pieces : List (ℕ × Bytes) → Bytes → Bytes
with_pieces [] bytes = bytes
with_pieces (p ∷ pieces) bytes = with_pieces pieces (with_range_replaced bytes p.0 p.1)

-- each piece lies inside a size
abbrev pub PiecesInside : ℕ → List (ℕ × Bytes) → Type 0
PiecesInside size [] = Unit {0}
PiecesInside size (p ∷ pieces) = (p.0 + length p.1 ≤ size) × PiecesInside size pieces

-- an offset lies in a piece
abbrev pub is_in_piece : List (ℕ × Bytes) → ℕ → Bool
is_in_piece [] i = false
is_in_piece (p ∷ pieces) i = is_in p.0 (length p.1) i || is_in_piece pieces i

-- a range has a byte in common with a piece
abbrev pub meets_piece : ℕ → ℕ → List (ℕ × Bytes) → Bool
meets_piece start len [] = false
meets_piece start len (p ∷ pieces) = is_meeting start len p.0 (length p.1) || meets_piece start len pieces

in_range : (start len i : ℕ) → is_in start len i ≡ false → (i < start) ⊎ (start + len ≤ i)
in_range start len i e = grind (arith, nat_tests)

pub untouched : (old : Bytes) (from : ℕ) (new : Bytes) (i : ℕ) → from + length new ≤ length old → is_in from (length new) i ≡ false → byte_at (with_range_replaced old from new) i ≡ byte_at old i
untouched old from new i inside e = ⊎_elim (λ p. byte_before old from new i inside p) (λ p. byte_behind old from new i inside p) (in_range from (length new) i e)

-- a byte in no piece stays
pub byte_outside : (size : ℕ) (pieces : List (ℕ × Bytes)) (bytes : Bytes) (i : ℕ) → PiecesInside size pieces → length bytes ≡ size → is_in_piece pieces i ≡ false → byte_at (with_pieces pieces bytes) i ≡ byte_at bytes i
byte_outside size [] bytes i inside h e = refl
byte_outside size (p ∷ pieces) bytes i inside h e =
    let here : p.0 + length p.1 ≤ length bytes = omega (arith, inside.0) in
    let apart = or_parts (is_in p.0 (length p.1) i) (is_in_piece pieces i) e in
    byte_outside size pieces (with_range_replaced bytes p.0 p.1) i inside.1 (length-with_range_replaced bytes p.0 p.1 here ∙ h) apart.1
    ∙ untouched bytes p.0 p.1 i here apart.0

not_in : (start len from count i : ℕ) → is_meeting start len from count ≡ false → start ≤ i → i < start + len → is_in from count i ≡ false
not_in start len from count i e p q = grind (arith, nat_tests)

pub not_in_pieces : (start len : ℕ) (pieces : List (ℕ × Bytes)) (i : ℕ) → meets_piece start len pieces ≡ false → start ≤ i → i < start + len → is_in_piece pieces i ≡ false
not_in_pieces start len [] i e p q = refl
not_in_pieces start len (r ∷ pieces) i e p q =
    let apart = or_parts (is_meeting start len r.0 (length r.1)) (meets_piece start len pieces) e in
    both_false (is_in r.0 (length r.1) i) (is_in_piece pieces i) (not_in start len r.0 (length r.1) i apart.0 p q) (not_in_pieces start len pieces i apart.1 p q)
  where
    both_false : (a b : Bool) → a ≡ false → b ≡ false → (a || b) ≡ false
    both_false true b f g = cc
    both_false false b f g = g

-- a piece that meets none of those after it is what its bytes are
pub byte_of_piece : (size at : ℕ) (piece : Bytes) (pieces : List (ℕ × Bytes)) (bytes : Bytes) (j : ℕ) → at + length piece ≤ size → PiecesInside size pieces → length bytes ≡ size → meets_piece at (length piece) pieces ≡ false → j < length piece
    → byte_at (with_pieces pieces (with_range_replaced bytes at piece)) (at + j) ≡ byte_at piece j
byte_of_piece size at piece pieces bytes j here inside h apart p =
    let fits : at + length piece ≤ length bytes = omega arith in
    let low : at ≤ at + j = omega arith in
    let high : at + j < at + length piece = omega arith in
    let place : at + j - at ≡ j = omega arith in
    byte_outside size pieces (with_range_replaced bytes at piece) (at + j) inside (length-with_range_replaced bytes at piece fits ∙ h) (not_in_pieces at (length piece) pieces (at + j) apart low high)
    ∙ byte_inside bytes at piece (at + j) fits low high
    ∙ ap (byte_at piece) place
