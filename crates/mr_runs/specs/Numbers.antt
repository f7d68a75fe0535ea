-- The numbers of bytes, and when they can be put in place.
use Rattle.std.specs.Prelude.{◌≡◌, ℕ, ◌+◌, ◌≤◌, List, length, map, Option}
use Rattle.mr_base.specs.declared.byte.AllocId.{AllocId}
use Rattle.mr_base.specs.declared.byte.AbstractByte.{AbstractByte}
use Rattle.mr_base.specs.declared.byte.AbstractByte.TheVariants.{Uninit, Init}
use Rattle.mr_runs.specs.Pieces.{SeenPiece, UninitPiece, InitPiece}
use Rattle.mr_runs.specs.Ranges.{with_range_replaced}

-- the number of a byte; that of an uninitialised one says nothing
abbrev pub number_of : AbstractByte → ℕ
number_of Uninit = 0
number_of (Init n provenance) = n

-- the bytes are initialised, and all have the provenance
abbrev pub AreOf : Option AllocId → List AbstractByte → Type 0
AreOf provenance bytes = bytes ≡ map (λ n. Init n provenance) (map number_of bytes)

-- so many bytes from the position on lie in the piece, and have its provenance
abbrev pub IsInPlace : SeenPiece → ℕ → List AbstractByte → Type 0
IsInPlace (UninitPiece len) at bytes = ⊥
IsInPlace (InitPiece numbers provenance) at bytes = (at + length bytes ≤ length numbers) × AreOf provenance bytes

-- initialised bytes with these numbers and one provenance
abbrev pub with_provenance : Option AllocId → List ℕ → List AbstractByte
with_provenance provenance numbers = map (λ n. Init n provenance) numbers

-- so many bytes of the provenance from the position on lie in the piece
abbrev pub TakesNumbers : SeenPiece → ℕ → ℕ → Option AllocId → Type 0
TakesNumbers (UninitPiece len) at count provenance = ⊥
TakesNumbers (InitPiece numbers own) at count provenance = (at + count ≤ length numbers) × (own ≡ provenance)

-- the piece with other numbers from the position on; an uninitialised one has none
abbrev pub with_numbers_at : SeenPiece → ℕ → List ℕ → SeenPiece
with_numbers_at (UninitPiece len) at numbers = UninitPiece len
with_numbers_at (InitPiece own provenance) at numbers = InitPiece (with_range_replaced own at numbers) provenance
