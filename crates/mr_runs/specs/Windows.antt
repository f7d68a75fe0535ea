-- A window of pieces: some bytes from a position on, in pieces.
use Rattle.std.specs.Prelude.{ℕ, zero, suc, ◌-◌, min, nat_lt, if◌then◌else◌, List, [], ◌∷◌}
use Rattle.std.specs.Prelude.{take, drop, Option, Some, None}
use Rattle.mr_runs.specs.Pieces.{SeenPiece, UninitPiece, InitPiece, piece_len}

-- a piece without its first n bytes
abbrev pub piece_past : SeenPiece → ℕ → SeenPiece
piece_past (UninitPiece len) n = UninitPiece (len - n)
piece_past (InitPiece numbers provenance) n = InitPiece (drop n numbers) provenance

-- the first n bytes of a piece, or all
abbrev pub first_piece : SeenPiece → ℕ → SeenPiece
first_piece (UninitPiece len) n = UninitPiece (min n len)
first_piece (InitPiece numbers provenance) n = InitPiece (take n numbers) provenance

-- pieces without their first n bytes
abbrev pub pieces_past : List SeenPiece → ℕ → List SeenPiece
pieces_past [] n = []
pieces_past (p ∷ pieces) n =
    (if nat_lt n (piece_len p) then piece_past p n ∷ pieces else pieces_past pieces (n - piece_len p))

-- the first n bytes of some pieces, or all
abbrev pub first_pieces : List SeenPiece → ℕ → List SeenPiece
first_pieces [] n = []
first_pieces (p ∷ pieces) zero = []
first_pieces (p ∷ pieces) (suc n) = first_piece p (suc n) ∷ first_pieces pieces (suc n - piece_len p)

-- what a window from `from` up to `to` has of a piece that begins at `begin` and ends behind `from`
abbrev pub clipped_piece : SeenPiece → ℕ → ℕ → ℕ → Option SeenPiece
clipped_piece p begin from to =
    (if nat_lt begin to then Some (first_piece (piece_past p (from - begin)) (to - begin - (from - begin))) else None)
