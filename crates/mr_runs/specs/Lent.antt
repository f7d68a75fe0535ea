-- What is lent: a window on the bytes that are kept.
use Rattle.std.specs.Prelude.{◌≡◌, ℕ, ◌+◌, ◌<◌, ◌≤◌, ◌^◌, List, [], Option, Some, None}
use Rattle.std.specs.Map.{values_of}
use Rattle.mr_runs.specs.declared.kept.Kept.{Kept}
use Rattle.mr_runs.specs.Pieces.{SeenPiece}
use Rattle.mr_runs.specs.Stamped.{IsSound, entries_of}
use Rattle.mr_runs.specs.Windows.{first_pieces, pieces_past}

-- the pieces of a window on what is kept; on nothing there is none
abbrev pub lent_pieces : Option Kept → ℕ → ℕ → List SeenPiece
lent_pieces None from len = []
lent_pieces (Some kept) from len = first_pieces (pieces_past (values_of (entries_of kept)) from) len

-- the window lies within what is kept; on nothing it is empty
abbrev pub IsLent : Option Kept → ℕ → ℕ → Type 0
IsLent None from len = (len ≡ 0) × (from + len < 2 ^ 64)
IsLent (Some kept) from len = (all : ℕ) × IsSound kept all × (from + len ≤ all) × (from + len < 2 ^ 64)
