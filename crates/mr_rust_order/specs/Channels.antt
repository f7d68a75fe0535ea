-- Channels: clocks that steps send to threads, to locks and to those that join a thread. A later step of the thread,
-- that acquires the lock or that joins the thread, receives them.
use Rattle.std.specs.Prelude.{◌≡◌, ◌≢◌, ℕ, ◌<◌, max, List, [], Bool, cond, ◌&&◌, ◌||◌, ◌==◌, IsTrue}
use Rattle.std.specs.Prelude.{slice_index, slice_index_or}
use Rattle.mr_base.specs.declared.thread.Event.{Event}
use Rattle.mr_base.specs.declared.thread.Event.TheVariants.{Acquire, Join}
use Rattle.mr_event.specs.Footprint.{Footprint}
use Rattle.mr_event.specs.Footprints.{wakes}
use Rattle.mr_event.specs.Order.{step_at, thread_at}
use Rattle.mr_rust_order.specs.Clocks.{IsUnder, Reaches}
use Rattle.mr_rust_order.specs.Order.{releases}

-- whether a step sends its clock to a thread, to a lock, to those that join a thread
abbrev pub to_thread : Footprint → ℕ → Bool
to_thread f thread = (f.thread == thread) || wakes f thread

abbrev pub to_lock : Footprint → ℕ → Bool
to_lock f lock = releases f.event lock

abbrev pub to_joiners : Footprint → ℕ → Bool
to_joiners f thread = f.ended && (f.thread == thread)

-- the clock of a channel
abbrev pub clock_at : List (List ℕ) → ℕ → List ℕ
clock_at clocks x = slice_index_or clocks x []

-- the clock that a step receives by its event
abbrev pub told_by : Event → List (List ℕ) → List (List ℕ) → List ℕ
told_by (Acquire lock) locks ended = clock_at locks lock
told_by (Join thread) locks ended = clock_at ended thread
told_by _ locks ended = []

-- step k reaches one of the first n steps that sends to the channel
pub record IsSent (run : List Footprint) (n : ℕ) (sends : Footprint → ℕ → Bool) (x k : ℕ) : Type 0 where
  pub step : ℕ
  pub within : step < n
  pub sent : IsTrue (sends (step_at run step) x)
  pub reached : Reaches run k step

-- under the clock of each channel lies just what reaches one of the first n steps that send to it
pub record AreChannels (run : List Footprint) (n : ℕ) (sends : Footprint → ℕ → Bool)
    (clocks : List (List ℕ)) : Type 0 where
  pub only : (x k : ℕ) → IsUnder run (clock_at clocks x) k → IsSent run n sends x k
  pub all : (x k : ℕ) → IsSent run n sends x k → IsUnder run (clock_at clocks x) k

-- the clocks of all channels but one are as they were
abbrev pub AreOthersKept : List (List ℕ) → ℕ → List (List ℕ) → Type 0
AreOthersKept old x new = (y : ℕ) → y ≢ x → clock_at new y ≡ clock_at old y

-- the clock of the channel of step j's thread: under it lies just what reaches an earlier step that sends to the thread
pub record IsThreadClock (run : List Footprint) (j : ℕ) (clock : List ℕ) : Type 0 where
  pub only : (k : ℕ) → IsUnder run clock k → IsSent run j to_thread (thread_at run j) k
  pub all : (k : ℕ) → IsSent run j to_thread (thread_at run j) k → IsUnder run clock k

-- a clock was sent to just those channels that pass the test
abbrev pub AreSent : List (List ℕ) → List ℕ → (ℕ → Bool) → List (List ℕ) → Type 0
AreSent old clock test new =
    (x t : ℕ) → slice_index (clock_at new x) t
    ≡ cond (test x) (max (slice_index (clock_at old x) t) (slice_index clock t)) (slice_index (clock_at old x) t)
