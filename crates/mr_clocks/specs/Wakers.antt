-- The steps that woke or created each thread. Such a step happens before the thread's next one. They stand in links of
-- the thread, the latest first, of which each leads to the one before it.
use Rattle.std.specs.Prelude.{◌≡◌, ◌≢◌, ℕ, ◌+◌, ◌<◌, ◌≤◌, ◌^◌, Bool, not, ◌&&◌, ◌==◌, List, length, slice_index}
use Rattle.std.specs.Prelude.{IsFalse, IsTrue, vec_capacity, vec_len}
use Rattle.mr_event.specs.Footprint.{Footprint}
use Rattle.mr_event.specs.Footprints.{wakes}
use Rattle.mr_event.specs.Order.{step_at, thread_at, Sync}
use Rattle.mr_clocks.specs.declared.rows.Link.{Link}
use Rattle.mr_clocks.specs.declared.wakers.Wakers.{Wakers}
use Rattle.mr_clocks.specs.Clocks.{IsUnder}
use Rattle.mr_clocks.specs.Keys.{spawns_some}
use Rattle.mr_clocks.specs.Rows.{AreLinks, IsKept, step_of}

-- For each thread the number at which its links begin, one more than the place of the first, or 0. The links keep steps
-- before n, and each step before m that woke or created a thread is kept by one of that thread's.
pub record AreWakers (run : List Footprint) (n m : ℕ) (heads : List ℕ) (links : List Link) : Type 0 where
  pub chained : AreLinks links
  pub low : (t : ℕ) → slice_index heads t ≤ length links
  pub within : (k : ℕ) → k < length links → step_of links k < n
  pub held : (i t : ℕ) → i < m → IsTrue (wakes (step_at run i) t) → IsKept links (slice_index heads t) i

-- the same numbers, and maybe zeros behind them
pub record AreExtended (old new : List ℕ) : Type 0 where
  pub longer : length old ≤ length new
  pub same : (t : ℕ) → slice_index new t ≡ slice_index old t

-- there is room to note whom a step woke or created: a number for each such thread, and as many links
pub record HasRoom (step : Footprint) (wakers : Wakers) : Type 0 where
  pub reached : (t : ℕ) → IsTrue (wakes step t) → t < length wakers.heads.items
  pub room : vec_len wakers.links + (length step.woken + 1) ≤ vec_capacity wakers.links
  pub small : vec_len wakers.links + (length step.woken + 1) < 2 ^ 32

-- whether a step woke and created no thread
abbrev pub wakes_nobody : Footprint → Bool
wakes_nobody step = not (spawns_some step.event) && (length step.woken == 0)

-- whom a step woke or created can be noted: there is room, or it is nobody
pub record CanNote (step : Footprint) (wakers : Wakers) : Type 0 where
  pub room : IsFalse (wakes_nobody step) → HasRoom step wakers

-- each step of another thread with which j is synchronised lies under the clock
abbrev pub AreSyncsUnder : List Footprint → List ℕ → ℕ → Type 0
AreSyncsUnder run clock j = (m : ℕ) → Sync run m j → thread_at run m ≢ thread_at run j → IsUnder run clock m

-- j is synchronised with no step of another thread
abbrev pub IsUnwoken : List Footprint → ℕ → Type 0
IsUnwoken run j = (m : ℕ) → Sync run m j → thread_at run m ≡ thread_at run j
