-- A lent piece as contracts see it.
use Rattle.mr_runs.specs.declared.views.Piece.{Piece}
use Rattle.mr_runs.specs.declared.views.Piece.TheVariants.{Uninit, Bytes}
use Rattle.mr_runs.specs.Pieces.{SeenPiece, UninitPiece, InitPiece}

-- the piece with the numbers that it lends
abbrev pub seen_piece : Piece → SeenPiece
seen_piece (Uninit len) = UninitPiece len
seen_piece (Bytes numbers provenance) = InitPiece numbers.now provenance
