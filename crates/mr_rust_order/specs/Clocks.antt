-- Clocks: for each thread one more than the place of its latest step that a clock knows, or 0. What happens before a
-- step is closed along a thread, so one number for each thread is enough. (Lamport; FastTrack: vector clocks.)
use Rattle.std.specs.Prelude.{◌≡◌, ℕ, ◌<◌, ◌≤◌, ◌⊎◌, max, List, slice_index}
use Rattle.mr_event.specs.Footprint.{Footprint}
use Rattle.mr_event.specs.Order.{thread_at}
use Rattle.mr_rust_order.specs.Order.{HappensBefore}

-- step k lies under a clock
abbrev pub IsUnder : List Footprint → List ℕ → ℕ → Type 0
IsUnder run clock k = k < slice_index clock (thread_at run k)

-- step k is step s, or happens before it
abbrev pub Reaches : List Footprint → ℕ → ℕ → Type 0
Reaches run k s = (k ≡ s) ⊎ HappensBefore run k s

-- the clock before step j: just what happens before j lies under it
pub record IsClockBefore (run : List Footprint) (clock : List ℕ) (j : ℕ) : Type 0 where
  pub only : (k : ℕ) → IsUnder run clock k → HappensBefore run k j
  pub all : (k : ℕ) → HappensBefore run k j → IsUnder run clock k

-- the clock behind step s: just s and what happens before it lies under it
pub record IsClockBehind (run : List Footprint) (clock : List ℕ) (s : ℕ) : Type 0 where
  pub only : (k : ℕ) → IsUnder run clock k → Reaches run k s
  pub all : (k : ℕ) → Reaches run k s → IsUnder run clock k

-- each number is the greater one of two clocks
abbrev pub IsJoin : List ℕ → List ℕ → List ℕ → Type 0
IsJoin one other new = (t : ℕ) → slice_index new t ≡ max (slice_index one t) (slice_index other t)

-- no number fell
abbrev pub IsRaised : List ℕ → List ℕ → Type 0
IsRaised old new = (t : ℕ) → slice_index old t ≤ slice_index new t
