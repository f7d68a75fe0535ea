-- Small lists: bytes in pieces, a range replaced, and windows of pieces.
use Rattle.mr_runs.proofs.Common.{◌≡◌, ℕ, List, [], ◌∷◌, replicate, Some, None, refl, AllocId, AbstractByte, Uninit, Init, SeenPiece, UninitPiece, InitPiece, bytes_of_pieces, AreMaximal, with_range_replaced, first_pieces, pieces_past}
use Rattle.std.proofs.Common.{lit<}

abbrev owner : AllocId
owner = record { thread = 1; count = 7 }

-- four bytes: two of one provenance between an uninitialised one and one without provenance
abbrev four : List AbstractByte
four = Uninit ∷ Init 5 (Some owner) ∷ Init 6 (Some owner) ∷ Init 0 None ∷ []

-- neighbours of one provenance may stand in one piece
few_pieces : bytes_of_pieces (UninitPiece 1 ∷ InitPiece (5 ∷ 6 ∷ []) (Some owner) ∷ InitPiece (0 ∷ []) None ∷ []) ≡ four
few_pieces = refl

-- or each in a piece of its own, which are then not as few as can be
four_pieces : bytes_of_pieces (UninitPiece 1 ∷ InitPiece (5 ∷ []) (Some owner) ∷ InitPiece (6 ∷ []) (Some owner) ∷ InitPiece (0 ∷ []) None ∷ []) ≡ four
four_pieces = refl

not_four_pieces : AreMaximal (UninitPiece 1 ∷ InitPiece (5 ∷ []) (Some owner) ∷ InitPiece (6 ∷ []) (Some owner) ∷ InitPiece (0 ∷ []) None ∷ []) → ⊥
not_four_pieces h = h.2.1 refl

replaced_in_the_middle : with_range_replaced {X = ℕ} (1 ∷ 2 ∷ 3 ∷ 4 ∷ []) 1 (8 ∷ 9 ∷ []) ≡ 1 ∷ 8 ∷ 9 ∷ 4 ∷ []
replaced_in_the_middle = refl

replaced_at_the_end : with_range_replaced {X = ℕ} (1 ∷ 2 ∷ 3 ∷ []) 2 (9 ∷ []) ≡ 1 ∷ 2 ∷ 9 ∷ []
replaced_at_the_end = refl

all_replaced : with_range_replaced {X = ℕ} (1 ∷ 2 ∷ []) 0 (8 ∷ 9 ∷ []) ≡ 8 ∷ 9 ∷ []
all_replaced = refl

nothing_replaced : with_range_replaced {X = ℕ} (1 ∷ 2 ∷ []) 1 [] ≡ 1 ∷ 2 ∷ []
nothing_replaced = refl

-- a window that cuts pieces at both ends
cut : first_pieces (pieces_past (UninitPiece 3 ∷ InitPiece (5 ∷ 6 ∷ []) None ∷ []) 2) 2 ≡ UninitPiece 1 ∷ InitPiece (5 ∷ []) None ∷ []
cut = refl

-- ---- eight uninitialised bytes, and what is written to them one after the other, in pieces

abbrev fresh : List SeenPiece
fresh = UninitPiece 8 ∷ []

fresh_bytes : bytes_of_pieces fresh ≡ replicate 8 Uninit
fresh_bytes = refl

fresh_few : AreMaximal fresh
fresh_few = (lit< tt, tt, tt)

abbrev two_written : List SeenPiece
two_written = UninitPiece 2 ∷ InitPiece (1 ∷ 2 ∷ []) (Some owner) ∷ UninitPiece 4 ∷ []

two_written_bytes : bytes_of_pieces two_written ≡ with_range_replaced (bytes_of_pieces fresh) 2 (Init 1 (Some owner) ∷ Init 2 (Some owner) ∷ [])
two_written_bytes = refl

two_written_few : AreMaximal two_written
two_written_few = (lit< tt, (λ e. cc), (lit< tt, (λ e. cc), (lit< tt, tt, tt)))

-- what is written right behind bytes of its provenance joins them
abbrev three_written : List SeenPiece
three_written = UninitPiece 2 ∷ InitPiece (1 ∷ 2 ∷ 3 ∷ []) (Some owner) ∷ UninitPiece 3 ∷ []

three_written_bytes : bytes_of_pieces three_written ≡ with_range_replaced (bytes_of_pieces two_written) 4 (Init 3 (Some owner) ∷ [])
three_written_bytes = refl

three_written_few : AreMaximal three_written
three_written_few = (lit< tt, (λ e. cc), (lit< tt, (λ e. cc), (lit< tt, tt, tt)))

-- another provenance splits them
abbrev other_written : List SeenPiece
other_written = UninitPiece 2 ∷ InitPiece (1 ∷ []) (Some owner) ∷ InitPiece (9 ∷ []) None ∷ InitPiece (3 ∷ []) (Some owner) ∷ UninitPiece 3 ∷ []

other_written_bytes : bytes_of_pieces other_written ≡ with_range_replaced (bytes_of_pieces three_written) 3 (Init 9 None ∷ [])
other_written_bytes = refl

other_written_few : AreMaximal other_written
other_written_few = (lit< tt, (λ e. cc), (lit< tt, (λ e. cc), (lit< tt, (λ e. cc), (lit< tt, (λ e. cc), (lit< tt, tt, tt)))))

-- and so does an uninitialised byte
abbrev one_filled : List SeenPiece
one_filled = UninitPiece 2 ∷ InitPiece (1 ∷ []) (Some owner) ∷ UninitPiece 1 ∷ InitPiece (3 ∷ []) (Some owner) ∷ UninitPiece 3 ∷ []

one_filled_bytes : bytes_of_pieces one_filled ≡ with_range_replaced (bytes_of_pieces other_written) 3 (replicate 1 Uninit)
one_filled_bytes = refl

one_filled_few : AreMaximal one_filled
one_filled_few = (lit< tt, (λ e. cc), (lit< tt, (λ e. cc), (lit< tt, (λ e. cc), (lit< tt, (λ e. cc), (lit< tt, tt, tt)))))

-- a byte of the provenance of both its neighbours makes them one
rejoined_bytes : bytes_of_pieces three_written ≡ with_range_replaced (bytes_of_pieces one_filled) 3 (Init 2 (Some owner) ∷ [])
rejoined_bytes = refl
