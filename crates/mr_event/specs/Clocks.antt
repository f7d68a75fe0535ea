-- The clock of a step: for each thread, up to which place its steps happen before the step. (Lamport; FastTrack: vector
-- clocks.) A thread that has a step in the run has a slot, the place of its entry in each clock.
use Rattle.std.specs.Prelude.{◌≡◌, ◌≢◌, ℕ, ◌+◌, ◌<◌, ◌≤◌, ◌↔◌, max, List, [], length, slice_index_or}
use Rattle.mr_event.specs.Footprint.{Footprint}
use Rattle.mr_event.specs.Order.{thread_at, HappensBefore}

-- the slots of the first n steps of a run lie below the count, and steps with one slot are of one thread
pub record AreSlotsBelow (run : List Footprint) (n : ℕ) (slots : List ℕ) (count : ℕ) : Type 0 where
  pub all : length slots ≡ n
  pub below : (i : ℕ) → i < n → slice_index_or slots i 0 < count
  pub apart : (i j : ℕ) → i < n → j < n → slice_index_or slots i 0 ≡ slice_index_or slots j 0
      → thread_at run i ≡ thread_at run j

-- the slots of all steps of a run
abbrev pub AreSlots : List Footprint → List ℕ → ℕ → Type 0
AreSlots run slots count = AreSlotsBelow run (length run) slots count

-- step i lies below a clock
abbrev pub IsBelow : List ℕ → List ℕ → ℕ → Type 0
IsBelow slots clock i = i < slice_index_or clock (slice_index_or slots i 0) 0

-- each entry is the greater one of two clocks
pub record IsJoin (one other new : List ℕ) : Type 0 where
  pub wide : length new ≡ length one
  pub each : (s : ℕ) → slice_index_or new s 0 ≡ max (slice_index_or one s 0) (slice_index_or other s 0)

-- the same, and in one slot all up to step i
pub record Follows (one other : List ℕ) (slot i : ℕ) (new : List ℕ) : Type 0 where
  pub wide : length new ≡ length one
  pub own : slice_index_or new slot 0 ≡ i + 1
  pub each : (s : ℕ) → s ≢ slot → slice_index_or new s 0 ≡ max (slice_index_or one s 0) (slice_index_or other s 0)

-- a clock of step k: exactly the steps that happen before step k lie below it
pub record IsClock (run : List Footprint) (slots clock : List ℕ) (k : ℕ) : Type 0 where
  pub bounded : (s : ℕ) → slice_index_or clock s 0 ≤ k
  pub exact : (i : ℕ) → i < k → IsBelow slots clock i ↔ HappensBefore run i k

-- the clocks of the first steps of a run, each with an entry for each slot
pub record AreClocks (run : List Footprint) (slots : List ℕ) (count : ℕ) (clocks : List (List ℕ)) : Type 0 where
  pub wide : (k : ℕ) → k < length clocks → length (slice_index_or clocks k []) ≡ count
  pub each : (k : ℕ) → k < length clocks → IsClock run slots (slice_index_or clocks k []) k
