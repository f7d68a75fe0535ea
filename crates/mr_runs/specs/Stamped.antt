-- Bytes whose numbers are kept apart from their marks: a list has a number for each position.
use Rattle.std.specs.Prelude.{◌≡◌, ℕ, List, [], ◌∷◌, length, map, take, drop}
use Rattle.mr_base.specs.declared.byte.AbstractByte.{AbstractByte}
use Rattle.mr_base.specs.declared.byte.AbstractByte.TheVariants.{Uninit, Init}
use Rattle.mr_runs.specs.declared.kept.Kept.{Kept}
use Rattle.mr_runs.specs.declared.kept.Kept.TheVariants.{Whole, Split}
use Rattle.mr_runs.specs.Pieces.{SeenPiece, UninitPiece, InitPiece}
use Rattle.mr_runs.specs.Placed.{IsTiled, bytes_in, total_len}
use Rattle.mr_runs.specs.Ranges.{with_range_replaced}

-- ---- bytes

-- the byte with another number; an uninitialised one has none
abbrev pub with_number : ℕ → AbstractByte → AbstractByte
with_number n Uninit = Uninit
with_number n (Init own provenance) = Init n provenance

-- the byte as its mark alone tells it
abbrev pub without_number : AbstractByte → AbstractByte
without_number b = with_number 0 b

-- bytes with the numbers of a list, each with the one at its place; those past its end as they are
abbrev pub stamp : List ℕ → List AbstractByte → List AbstractByte
stamp [] bytes = bytes
stamp (n ∷ numbers) [] = []
stamp (n ∷ numbers) (b ∷ bytes) = with_number n b ∷ stamp numbers bytes

-- ---- pieces

-- the piece with the first numbers of a list
abbrev pub stamped_piece : List ℕ → SeenPiece → SeenPiece
stamped_piece numbers (UninitPiece len) = UninitPiece len
stamped_piece numbers (InitPiece own provenance) = InitPiece (take (length own) numbers) provenance

-- a piece under the position where it begins, with the numbers that the list has from there on
abbrev pub stamped_entry : List ℕ → ℕ × SeenPiece → ℕ × SeenPiece
stamped_entry numbers e = (e.0, stamped_piece (drop e.0 numbers) e.1)

abbrev pub stamped : List ℕ → List (ℕ × SeenPiece) → List (ℕ × SeenPiece)
stamped numbers es = map (stamped_entry numbers) es

-- ---- what is kept

-- the pieces, with their numbers
abbrev pub entries_of : Kept → List (ℕ × SeenPiece)
entries_of (Whole runs) = runs.entries
entries_of (Split marks numbers) = stamped numbers.items marks.entries

-- the pieces are those of so many bytes, and a list has a number for each of these
pub record IsStamped (es : List (ℕ × SeenPiece)) (numbers : List ℕ) (len : ℕ) : Type 0 where
  pub tiled : IsTiled es
  pub whole : total_len es ≡ len
  pub all : length numbers ≡ len

-- what is kept is so many bytes
abbrev pub IsSound : Kept → ℕ → Type 0
IsSound (Whole runs) len = IsTiled runs.entries × (total_len runs.entries ≡ len)
IsSound (Split marks numbers) len = IsStamped marks.entries numbers.items len

-- the marks stand apart
abbrev pub IsApart : Kept → Type 0
IsApart (Whole runs) = ⊥
IsApart (Split marks numbers) = Unit {0}

-- the same bytes are kept, in one way or the other
pub record IsSame (old new : Kept) (len : ℕ) : Type 0 where
  pub sound : IsSound new len
  pub bytes_are : bytes_in (entries_of new) ≡ bytes_in (entries_of old)

-- just as many bytes from a position on were replaced
pub record IsChanged (old new : Kept) (len from : ℕ) (bytes : List AbstractByte) : Type 0 where
  pub sound : IsSound new len
  pub bytes_are : bytes_in (entries_of new) ≡ with_range_replaced (bytes_in (entries_of old)) from bytes

-- the same of pieces and their numbers
pub record IsStampedAnew (old new : List (ℕ × SeenPiece)) (before after : List ℕ) (len from : ℕ)
    (bytes : List AbstractByte) : Type 0 where
  pub sound : IsStamped new after len
  pub bytes_are : bytes_in (stamped after new) ≡ with_range_replaced (bytes_in (stamped before old)) from bytes
