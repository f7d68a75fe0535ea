-- A piece of bytes that grows over uninitialised ones behind it.
use Rattle.std.specs.Prelude.{◌≡◌, ℕ, ◌+◌, ◌-◌, ◌<◌, List, ◌++◌, Option}
use Rattle.mr_base.specs.declared.byte.AllocId.{AllocId}
use Rattle.mr_runs.specs.declared.mark.Mark.TheVariants as mark
use Rattle.mr_runs.specs.Pieces.{SeenPiece, UninitPiece, InitPiece, mark_of, piece_len}
use Rattle.mr_runs.specs.Placed.{Holds}

-- the piece with more numbers behind its own; an uninitialised one takes none
abbrev pub with_numbers : SeenPiece → List ℕ → SeenPiece
with_numbers (UninitPiece len) numbers = UninitPiece len
with_numbers (InitPiece own provenance) numbers = InitPiece (own ++ numbers) provenance

-- The piece under `begin` ends at the position `from`, and has bytes with the provenance. Uninitialised bytes begin
-- there, `rest` more than `count`.
pub record CanGrow (es : List (ℕ × SeenPiece)) (from count : ℕ) (provenance : Option AllocId)
    (begin rest : ℕ) : Type 0 where
  pub piece : SeenPiece
  pub some : 0 < from
  pub holds : Holds es (from - 1) begin piece
  pub ends : begin + piece_len piece ≡ from
  pub like : mark_of piece ≡ mark.Init provenance
  pub gap : Holds es from from (UninitPiece (count + rest))
  pub left : 0 < rest
