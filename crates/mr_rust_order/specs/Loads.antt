-- Which atomic stores an atomic load reads, by the rows alone.
use Rattle.std.specs.Prelude.{ℕ, ◌+◌, ◌<◌, ◌≤◌, ◌⊎◌, List, length, slice_index, Bool, not, ◌&&◌, ◌||◌, ◌==◌, IsTrue}
use Rattle.std.specs.List.{Contains}
use Rattle.mr_base.specs.Accesses.{conflicts}
use Rattle.mr_base.specs.declared.access.Access.{Access}
use Rattle.mr_rust_order.specs.declared.rows.Row.{Row}
use Rattle.mr_rust_order.specs.Clocks.{IsRaised}
use Rattle.mr_rust_order.specs.Marks.{IsListed}
use Rattle.mr_rust_order.specs.Order.{has_byte, is_atomic_load, is_atomic_store, is_plain_store, is_store}
use Rattle.mr_rust_order.specs.Rows.{row_at}

-- the access stores to the byte: in any way, or not atomically
abbrev pub counts : Bool → Access → ℕ → Bool
counts every a byte = a.store && (every || not a.atomic) && has_byte a byte

-- the row has an atomic store to the byte, of the step right before a number
abbrev pub takes : Row → ℕ → ℕ → Bool
takes row byte latest = is_atomic_store row.range byte && (row.last + 1 == latest)

-- whether an access is an atomic load
abbrev pub is_load : Access → Bool
is_load a = not a.store && a.atomic

-- each row that conflicts with an access is listed
abbrev pub AreMet : List Row → Access → List ℕ → Type 0
AreMet rows access found =
    (x : ℕ) → x < length rows → IsTrue (conflicts (row_at rows x).range access) → IsListed found x

-- each row that stores to the byte is listed
abbrev pub AreFoundAt : List Row → ℕ → List ℕ → Type 0
AreFoundAt rows byte found = (x : ℕ) → x < length rows → IsTrue (is_store (row_at rows x).range byte) → IsListed found x

-- The row has an atomic store to the byte; no row that stores to it has a later step, and none that does so in another
-- way one that is as late.
pub record IsLatestStore (rows : List Row) (byte x : ℕ) : Type 0 where
  pub within : x < length rows
  pub store : IsTrue (is_atomic_store (row_at rows x).range byte)
  pub latest : (y : ℕ) → y < length rows → IsTrue (is_store (row_at rows y).range byte)
      → (row_at rows y).last ≤ (row_at rows x).last
  pub atomic : (y : ℕ) → y < length rows → IsTrue (is_plain_store (row_at rows y).range byte)
      → (row_at rows y).last < (row_at rows x).last

-- the row has the latest store to some byte that an access loads atomically
abbrev pub IsLoadedBy : List Row → ℕ → Access → Type 0
IsLoadedBy rows x a = (byte : ℕ) × IsTrue (is_atomic_load a byte) × IsLatestStore rows byte x

-- the same of one of some accesses
abbrev pub IsReadOf : List Row → List Access → ℕ → Type 0
IsReadOf rows accesses x = (a : Access) × Contains accesses a × IsLoadedBy rows x a

-- a clock is raised to those of the rows with P, and to no others
pub record AreJoined (rows : List Row) (P : ℕ → Type 0) (old new : List ℕ) : Type 0 where
  pub raised : IsRaised old new
  pub only : (t n : ℕ) → n < slice_index new t
      → (n < slice_index old t) ⊎ ((x : ℕ) × P x × (n < slice_index (row_at rows x).clock t))
  pub all : (x : ℕ) → P x → IsRaised (row_at rows x).clock new
