-- Abstract bytes in pieces. (MiniRust, memory: abstract bytes.)
use Rattle.std.specs.Prelude.{◌≢◌, ℕ, ◌<◌, List, [], ◌∷◌, ◌++◌, length, map, replicate, Option}
use Rattle.mr_base.specs.declared.byte.AllocId.{AllocId}
use Rattle.mr_base.specs.declared.byte.AbstractByte.{AbstractByte}
use Rattle.mr_base.specs.declared.byte.AbstractByte.TheVariants.{Uninit, Init}
use Rattle.mr_runs.specs.declared.mark.Mark.{Mark}
use Rattle.mr_runs.specs.declared.mark.Mark.TheVariants as mark

-- so many uninitialised bytes, or the numbers of initialised ones that have one provenance
pub data SeenPiece : Type 0 where
  UninitPiece : (len : ℕ) → SeenPiece
  InitPiece : (numbers : List ℕ) (provenance : Option AllocId) → SeenPiece

-- the bytes of a piece
abbrev pub bytes_of_piece : SeenPiece → List AbstractByte
bytes_of_piece (UninitPiece len) = replicate len Uninit
bytes_of_piece (InitPiece numbers provenance) = map (λ n. Init n provenance) numbers

-- the bytes of all pieces, joined in order
abbrev pub bytes_of_pieces : List SeenPiece → List AbstractByte
bytes_of_pieces [] = []
bytes_of_pieces (p ∷ pieces) = bytes_of_piece p ++ bytes_of_pieces pieces

-- how many bytes a piece has
abbrev pub piece_len : SeenPiece → ℕ
piece_len (UninitPiece len) = len
piece_len (InitPiece numbers provenance) = length numbers

-- what the bytes of a piece have in common: that they are uninitialised, or their provenance
abbrev pub mark_of : SeenPiece → Mark
mark_of (UninitPiece len) = mark.Uninit
mark_of (InitPiece numbers provenance) = mark.Init provenance

-- the piece and the first of the others are not both uninitialised, nor bytes of one provenance
abbrev pub IsApartFrom : SeenPiece → List SeenPiece → Type 0
IsApartFrom p [] = Unit {0}
IsApartFrom p (q ∷ pieces) = mark_of p ≢ mark_of q

-- no piece is empty, and no two neighbours could be one piece
abbrev pub AreMaximal : List SeenPiece → Type 0
AreMaximal [] = Unit {0}
AreMaximal (p ∷ pieces) = (0 < piece_len p) × IsApartFrom p pieces × AreMaximal pieces
