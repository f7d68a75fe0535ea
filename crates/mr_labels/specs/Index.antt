-- How the allocations of a run are searched: those with bytes, in order, where none of them reaches the next one.
use Rattle.std.specs.Prelude.{◌≡◌, ℕ, ◌+◌, ◌&&◌, Bool, true, nat_le, nat_lt, if◌then◌else◌, List, [], ◌∷◌}
use Rattle.std.specs.Prelude.{Option, None, Some}
use Rattle.std.specs.List.{filter}
use Rattle.std.specs.List.Sorted.{IsPermutation}
use Rattle.mr_labels.specs.declared.rows.Allocation.{Allocation}
use Rattle.mr_labels.specs.Table.{holds}

-- whether an allocation has a byte
abbrev pub has_bytes : Allocation → Bool
has_bytes row = nat_lt 0 row.size

-- whether each allocation begins where the one before ends, or behind, the first one at `low`, or behind
abbrev pub is_apart : ℕ → List Allocation → Bool
is_apart low [] = true
is_apart low (row ∷ rows) = nat_le low row.start && is_apart (row.start + row.size) rows

-- those of these allocations that have bytes, in order and apart
pub record IsIndex (rows index : List Allocation) : Type 0 where
  pub moved : IsPermutation (filter has_bytes rows) index
  pub apart : is_apart 0 index ≡ true

-- they are such an index, if they are said to be
abbrev pub IsIndexIf : Bool → List Allocation → List Allocation → Type 0
IsIndexIf apart rows index = apart ≡ true → IsIndex rows index

-- the allocations from the first that ends behind an address on
abbrev pub rows_past : ℕ → List Allocation → List Allocation
rows_past addr [] = []
rows_past addr (row ∷ rows) = if nat_le (row.start + row.size) addr then rows_past addr rows else row ∷ rows

-- the first of these, where it holds an address
abbrev pub first_holding : ℕ → List Allocation → Option Allocation
first_holding addr [] = None
first_holding addr (row ∷ rows) = if holds addr row then Some row else None
