-- Skips. A step that asks a row passes the steps there that race with it, until it comes to one that it knows or that
-- an edge leads from. It leaves a skip over those that it passed: a later step, of whatever thread, that has the
-- accesses by which they race need not walk there again.
use Rattle.std.specs.Prelude.{◌≡◌, ℕ, ◌<◌, ◌≤◌, ◌⊎◌, Bool, true, List, [], length, slice_index_or}
use Rattle.std.specs.List.{Contains}
use Rattle.mr_base.specs.declared.access.Access.{Access}
use Rattle.mr_base.specs.Accesses.{some_race}
use Rattle.mr_event.specs.Footprint.{Footprint}
use Rattle.mr_event.specs.Order.{step_at, Edge}
use Rattle.mr_clocks.specs.declared.rows.Row.{Row}
use Rattle.mr_clocks.specs.declared.rows.Link.{Link}
use Rattle.mr_clocks.specs.Keys.{Counts}
use Rattle.mr_clocks.specs.Rows.{IsIn, step_of}

-- a step races with one of the accesses
abbrev pub RacesBy : List Footprint → ℕ → List Access → Type 0
RacesBy run s by = some_race (step_at run s).accesses by ≡ true

-- each of the first accesses is one of the others
abbrev pub AreAmong : List Access → List Access → Type 0
AreAmong by accesses = (b : Access) → Contains by b → Contains accesses b

-- A skip of the first n steps: the number at which it begins, the one at which it ends, and accesses. Each link from
-- the first number on keeps a step that races with one of the accesses, or is one of those from the second number on.
pub record IsSkip (run : List Footprint) (n : ℕ) (links : List Link) (skip : ℕ × ℕ × List Access) : Type 0 where
  pub inside : skip.0 ≤ length links
  pub falls : skip.1 ≤ skip.0
  pub within : (k : ℕ) → IsIn links k skip.0 → step_of links k < n
  pub behind : (k : ℕ) → IsIn links k skip.1 → IsIn links k skip.0
  pub passed : (k : ℕ) → IsIn links k skip.0 → IsIn links k skip.1 ⊎ RacesBy run (step_of links k) skip.2

-- a skip over nothing
abbrev pub no_skip : ℕ × ℕ × List Access
no_skip = (0, 0, [])

abbrev pub skip_at : List (ℕ × ℕ × List Access) → ℕ → ℕ × ℕ × List Access
skip_at skips x = slice_index_or skips x no_skip

abbrev pub AreSkips : List Footprint → ℕ → List Link → List (ℕ × ℕ × List Access) → Type 0
AreSkips run n links skips = (x : ℕ) → x < length skips → IsSkip run n links (skip_at skips x)

-- a skip takes step j down from a number: it begins there, and j has its accesses
pub record IsServing (run : List Footprint) (skip : ℕ × ℕ × List Access) (at j : ℕ) : Type 0 where
  pub begins : skip.0 ≡ at
  pub falls : skip.1 < at
  pub covered : AreAmong skip.2 (step_at run j).accesses

-- A walk of step j that has come to a number: what is behind it is of the row, and from what it passed no edge leads
-- that counts for the row's key. Where the walk is whole, each step that it passed races with one of the accesses,
-- which are j's.
pub record IsWalking (run : List Footprint) (j at : ℕ) (links : List Link)
    (row : Row) (whole : Bool) (by : List Access) : Type 0 where
  pub low : at ≤ length links
  pub falls : at ≤ row.last
  pub inside : (k : ℕ) → IsIn links k at → IsIn links k row.last
  pub passed :
      (k : ℕ) → IsIn links k row.last
      → IsIn links k at
      ⊎ (Edge run (step_of links k) j → Counts row.key (step_at run (step_of links k)) (step_at run j) → ⊥)
  pub covered : AreAmong by (step_at run j).accesses
  pub raced :
      whole ≡ true → (k : ℕ) → IsIn links k row.last → IsIn links k at ⊎ RacesBy run (step_of links k) by
