-- What a run keeps, as contracts see it.
use Rattle.std.specs.Prelude.{ℕ, List, replicate}
use Rattle.mr_runs.specs.declared.mark.Mark.{Mark}
use Rattle.mr_runs.specs.declared.mark.Mark.TheVariants as mark
use Rattle.mr_runs.specs.declared.run.Content.{Content}
use Rattle.mr_runs.specs.declared.run.Content.TheVariants.{Uninit, Bytes}
use Rattle.mr_runs.specs.Pieces.{SeenPiece, UninitPiece, InitPiece}

-- the piece of a run's bytes
abbrev pub piece_of_content : {N : Type 0} → (N → List ℕ) → Content N → SeenPiece
piece_of_content listed (Uninit len) = UninitPiece len
piece_of_content listed (Bytes numbers provenance) = InitPiece (listed numbers) provenance

-- the piece of so many bytes with a mark, whose numbers are kept apart
abbrev pub marked_piece : ℕ → Mark → SeenPiece
marked_piece len mark.Uninit = UninitPiece len
marked_piece len (mark.Init provenance) = InitPiece (replicate len 0) provenance
