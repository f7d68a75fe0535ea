-- Which steps the second step of a race needs.
use Rattle.std.specs.Prelude.{◌≡◌, ℕ, ◌<◌, ◌⊎◌, ◌↔◌, Bool, true, false, List, length, slice_index, slice_index_or}
use Rattle.mr_event.specs.Footprint.{Footprint}
use Rattle.mr_event.specs.Order.{AreRivals}
use Rattle.mr_clocks.specs.Whole.{IsUpTo}

-- step s is step j or a rival of it before it
abbrev pub IsEnd : List Footprint → ℕ → ℕ → Type 0
IsEnd run j s = (s ≡ j) ⊎ ((s < j) × AreRivals run s j)

-- step k is one of these or happens before one
abbrev pub IsNeededFor : List Footprint → ℕ → ℕ → Type 0
IsNeededFor run j k = (s : ℕ) × IsEnd run j s × IsUpTo run s k

-- the steps are the rivals of step j below k
pub record AreRivalsBelow (run : List Footprint) (j k : ℕ) (steps : List ℕ) : Type 0 where
  pub each : (x : ℕ) → x < length steps → (slice_index steps x < k) × AreRivals run (slice_index steps x) j
  pub all : (s : ℕ) → s < k → AreRivals run s j → (x : ℕ) × (x < length steps) × (slice_index steps x ≡ s)

-- the steps are the rivals of step j before it, and step j
pub record AreEnds (run : List Footprint) (j : ℕ) (steps : List ℕ) : Type 0 where
  pub each : (x : ℕ) → x < length steps → IsEnd run j (slice_index steps x)
  pub all : (s : ℕ) → IsEnd run j s → (x : ℕ) × (x < length steps) × (slice_index steps x ≡ s)

-- the marks are of the steps that are needed
pub record AreMarks (run : List Footprint) (j : ℕ) (marks : List Bool) : Type 0 where
  pub wide : length marks ≡ length run
  pub each : (k : ℕ) → k < length run → slice_index_or marks k false ≡ true ↔ IsNeededFor run j k
