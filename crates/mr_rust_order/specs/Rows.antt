-- The rows of a run: for each range and kind some steps that made this access, so that each step that made it is one of
-- them or happens before one; and for an atomic store the clock behind the step. So a step takes the row of one that it
-- knows, and where all steps with an access are in order there is one row. (FastTrack: epochs.) Nothing is split:
-- accesses that overlap have rows of their own.
use Rattle.std.specs.Prelude.{◌≡◌, ℕ, ◌+◌, ◌<◌, ◌≤◌, ◌^◌, ◌⊎◌, List, [], length, Bool, false, ◌&&◌, IsTrue}
use Rattle.std.specs.Prelude.{slice_index, slice_index_or}
use Rattle.std.specs.List.{Contains}
use Rattle.mr_base.specs.declared.access.Access.{Access}
use Rattle.mr_event.specs.Footprint.{Footprint}
use Rattle.mr_event.specs.Order.{step_at, thread_at}
use Rattle.mr_rust_order.specs.declared.rows.Row.{Row}
use Rattle.mr_rust_order.specs.Clocks.{IsClockBehind, Reaches}

-- what stands past the end of the rows
abbrev pub no_row : Row
no_row =
    record { range = record { store = false; atomic = false; addr = 0; len = 0 }; thread = 0; last = 0; clock = [] }

abbrev pub row_at : List Row → ℕ → Row
row_at rows x = slice_index_or rows x no_row

-- a row of the range stands at a place
pub record IsRowOf (rows : List Row) (x : ℕ) (range : Access) : Type 0 where
  pub within : x < length rows
  pub of_range : (row_at rows x).range ≡ range

-- a clock knows the step of a row
abbrev pub IsKnown : Row → List ℕ → Type 0
IsKnown row clock = row.last < slice_index clock row.thread

-- a row of the range stands at a place, and a clock knows its step
pub record IsKnownRow (rows : List Row) (x : ℕ) (range : Access) (clock : List ℕ) : Type 0 where
  pub within : x < length rows
  pub of_range : (row_at rows x).range ≡ range
  pub known : IsKnown (row_at rows x) clock

-- whether an access is an atomic store
abbrev pub is_release : Access → Bool
is_release a = a.store && a.atomic

-- the row's step is one of the first n, of its thread, and made its access; the clock is the one behind it
pub record IsRow (run : List Footprint) (n : ℕ) (row : Row) : Type 0 where
  pub within : row.last < n
  pub thread : thread_at run row.last ≡ row.thread
  pub made : Contains (step_at run row.last).accesses row.range
  pub clock : IsTrue (is_release row.range) → IsClockBehind run row.clock row.last

-- an access of step i has a row, with i or a step that it happens before
pub record IsHeld (run : List Footprint) (rows : List Row) (i : ℕ) (a : Access) : Type 0 where
  pub row : ℕ
  pub found : IsRowOf rows row a
  pub reached : Reaches run i (row_at rows row).last

-- the rows of the first n steps of a run
pub record AreRows (run : List Footprint) (n : ℕ) (rows : List Row) : Type 0 where
  pub each : (x : ℕ) → x < length rows → IsRow run n (row_at rows x)
  pub held : (i : ℕ) (a : Access) → i < n → Contains (step_at run i).accesses a → IsHeld run rows i a

-- the places of the steps are far from the end of the numbers
abbrev pub AreShort : List Row → Type 0
AreShort rows = (x : ℕ) → x < length rows → (row_at rows x).last + 1 < 2 ^ 64

-- a row of a thread that step j puts in for one of some accesses
pub record IsPut (accesses : List Access) (thread j : ℕ) (clock : List ℕ) (row : Row) : Type 0 where
  pub made : Contains accesses row.range
  pub of_thread : row.thread ≡ thread
  pub last : row.last ≡ j
  pub kept : IsTrue (is_release row.range) → row.clock ≡ clock

-- a row is as it was, or it is put in
abbrev pub IsOldOrPut : List Row → List Access → ℕ → ℕ → List ℕ → ℕ → Row → Type 0
IsOldOrPut old accesses thread j clock x row =
    ((x < length old) × (row ≡ row_at old x)) ⊎ IsPut accesses thread j clock row

-- A step j noted accesses of its own: each row is as it was, or put in for one of them; each old row stands where it
-- stood, of its range, and is as it was, or the clock knew its step; and each of the accesses has a row with j.
pub record AreNoted (old : List Row) (accesses : List Access) (thread j : ℕ) (clock : List ℕ)
    (new : List Row) : Type 0 where
  pub longer : length old ≤ length new
  pub each : (x : ℕ) → x < length new → IsOldOrPut old accesses thread j clock x (row_at new x)
  pub kept : (x : ℕ) → x < length old → IsRowOf new x (row_at old x).range
  pub known : (x : ℕ) → x < length old → (row_at new x ≡ row_at old x) ⊎ IsKnown (row_at old x) clock
  pub here : (a : Access) → Contains accesses a → (x : ℕ) × IsRowOf new x a × ((row_at new x).last ≡ j)

-- the row at a place passes a test
pub record Passes (rows : List Row) (test : Row → Bool) (x : ℕ) : Type 0 where
  pub within : x < length rows
  pub passed : IsTrue (test (row_at rows x))

-- a number is one more than the greatest step of the rows with P, or 0
pub record IsTop (rows : List Row) (P : ℕ → Type 0) (n : ℕ) : Type 0 where
  pub above : (x : ℕ) → P x → (row_at rows x).last < n
  pub reached : (i : ℕ) → n ≡ i + 1 → (x : ℕ) × P x × ((row_at rows x).last ≡ i)

-- a number is raised above the step of the row at a place, if that passes the test
pub record IsTopWith (rows : List Row) (test : Row → Bool) (x old new : ℕ) : Type 0 where
  pub grown : old ≤ new
  pub here : Passes rows test x → (row_at rows x).last < new
  pub only : (new ≡ old) ⊎ (Passes rows test x × (new ≡ (row_at rows x).last + 1))
