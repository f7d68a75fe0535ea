-- Pieces under the positions where they begin.
use Rattle.std.specs.Prelude.{◌≡◌, ℕ, ◌+◌, ◌<◌, ◌≤◌, List, [], ◌∷◌, ◌++◌, Option}
use Rattle.std.specs.Map.{lookup, values_of}
use Rattle.std.specs.BTreeMap.{is_at}
use Rattle.std.specs.BTreeMap.Range.{entries_between}
use Rattle.std.specs.declared.ops.Bound.TheVariants.{Included, Unbounded}
use Rattle.std.specs.Ordering.{nat_cmp}
use Rattle.mr_base.specs.declared.byte.AbstractByte.{AbstractByte}
use Rattle.mr_runs.specs.Pieces.{SeenPiece, piece_len, bytes_of_pieces, AreMaximal}
use Rattle.mr_runs.specs.Ranges.{with_range_replaced}

-- the bytes of all of them
abbrev pub bytes_in : List (ℕ × SeenPiece) → List AbstractByte
bytes_in es = bytes_of_pieces (values_of es)

-- how many bytes these are
abbrev pub total_len : List (ℕ × SeenPiece) → ℕ
total_len [] = 0
total_len (e ∷ es) = piece_len e.1 + total_len es

-- each stands under the position where it begins, right behind the one before, and the first at the position that is
-- given
abbrev pub IsPlaced : List (ℕ × SeenPiece) → ℕ → Type 0
IsPlaced [] at = Unit {0}
IsPlaced (e ∷ es) at = (e.0 ≡ at) × IsPlaced es (at + piece_len e.1)

-- the pieces are those of some bytes, from the first byte on, and as few as can be
pub record IsTiled (es : List (ℕ × SeenPiece)) : Type 0 where
  pub placed : IsPlaced es 0
  pub maximal : AreMaximal (values_of es)

-- the piece that begins at a position, if one does
abbrev pub found : ℕ → List (ℕ × SeenPiece) → Option SeenPiece
found q es = lookup (is_at (nat_cmp q)) es

-- the pieces that begin at a position or behind it
abbrev pub begun_from : ℕ → List (ℕ × SeenPiece) → List (ℕ × SeenPiece)
begun_from first es = entries_between nat_cmp (Included first) Unbounded es

-- the piece under `begin` holds the position `at`; some pieces stand before it, and some behind
pub record Holds (es : List (ℕ × SeenPiece)) (at begin : ℕ) (piece : SeenPiece) : Type 0 where
  pub before : List (ℕ × SeenPiece)
  pub behind : List (ℕ × SeenPiece)
  pub is : es ≡ before ++ (begin, piece) ∷ behind
  pub from : begin ≤ at
  pub to : at < begin + piece_len piece

-- just as many bytes from a position on were replaced, and the pieces are as few as can be again
pub record IsReplaced (old new : List (ℕ × SeenPiece)) (from : ℕ) (bytes : List AbstractByte) : Type 0 where
  pub tiled : IsTiled new
  pub whole : total_len new ≡ total_len old
  pub bytes_are : bytes_in new ≡ with_range_replaced (bytes_in old) from bytes
