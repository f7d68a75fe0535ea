-- Questions on a whole run: what happens before some steps, and what lies before the threads' fronts.
use Rattle.std.specs.Prelude.{◌≡◌, ℕ, ◌<◌, ◌≤◌, ◌^◌, ◌⊎◌, List, length, slice_index, slice_index_or, MatchOption}
use Rattle.mr_event.specs.Footprint.{Footprint}
use Rattle.mr_event.specs.Order.{thread_at, HappensBefore}
use Rattle.mr_clocks.specs.declared.whole.RunOrder.{RunOrder}
use Rattle.mr_clocks.specs.Tracked.{Tracks}

-- the front of a thread, past the run where the list has none of it
abbrev pub front_of : List Footprint → List ℕ → ℕ → ℕ
front_of run fronts t = slice_index_or fronts t (length run)

-- each front that isn't past the run is a step of its thread
abbrev pub AreFronts : List Footprint → List ℕ → Type 0
AreFronts run fronts = (t : ℕ) → front_of run fronts t < length run → thread_at run (front_of run fronts t) ≡ t

-- all that happens before step k lies before the front of its thread
abbrev pub IsReady : List Footprint → List ℕ → ℕ → Type 0
IsReady run fronts k = (a : ℕ) → HappensBefore run a k → a < front_of run fronts (thread_at run a)

-- step k is step s or happens before it
abbrev pub IsUpTo : List Footprint → ℕ → ℕ → Type 0
IsUpTo run s k = (k ≡ s) ⊎ HappensBefore run k s

-- step k is one of the first n of these steps, or happens before one of them
abbrev pub IsNeededBy : List Footprint → List ℕ → ℕ → ℕ → Type 0
IsNeededBy run steps n k = (m : ℕ) × (m < n) × IsUpTo run (slice_index steps m) k

-- step k is one of these steps, or happens before one of them
abbrev pub IsNeeded : List Footprint → List ℕ → ℕ → Type 0
IsNeeded run steps k = IsNeededBy run steps (length steps) k

-- the order of a run: an analysis that tracks it, or none, from 2^32 steps on alone
abbrev pub IsOrderOf : RunOrder → List Footprint → Type 0
IsOrderOf order run = MatchOption order.clocks (2 ^ 32 ≤ length run) (λ a. (length run < 2 ^ 32) × Tracks a run)
