-- What happens before what in a run by the rules of Rust, and the data races that it has. (Rust's std::sync::atomic,
-- memory model for atomic accesses, and reference, behavior considered undefined; C++20, [intro.races]. Every atomic
-- access is sequentially consistent.) A run is the list of the footprints of its steps; a step is named by its place in
-- the run, counted from 0.
use Rattle.std.specs.Prelude.{◌≡◌, ◌≢◌, ℕ, ◌+◌, ◌<◌, List, length, Bool, false, not, ◌&&◌, ◌==◌, nat_le, nat_lt}
use Rattle.std.specs.Prelude.{IsTrue, All, Any, AllPairs}
use Rattle.std.specs.List.{Contains}
use Rattle.mr_base.specs.Accesses.{some_race}
use Rattle.mr_base.specs.declared.access.Access.{Access}
use Rattle.mr_base.specs.declared.thread.Event.{Event}
use Rattle.mr_base.specs.declared.thread.Event.TheVariants.{Acquire, Join, Release}
use Rattle.mr_event.specs.Footprint.{Footprint}
use Rattle.mr_event.specs.declared.footprint.Pair.{Pair}
use Rattle.mr_event.specs.Footprints.{wakes}
use Rattle.mr_event.specs.Order.{step_at, thread_at}

-- whether the event releases the lock
abbrev pub releases : Event → ℕ → Bool
releases (Release released) lock = released == lock
releases _ _ = false

-- whether the byte at an address is one of those of an access
abbrev pub has_byte : Access → ℕ → Bool
has_byte a byte = nat_le a.addr byte && nat_lt byte (a.addr + a.len)

-- whether an access stores to a byte; atomically; otherwise; whether it loads it atomically
abbrev pub is_store : Access → ℕ → Bool
is_store a byte = a.store && has_byte a byte

abbrev pub is_atomic_store : Access → ℕ → Bool
is_atomic_store a byte = a.store && a.atomic && has_byte a byte

abbrev pub is_plain_store : Access → ℕ → Bool
is_plain_store a byte = a.store && not a.atomic && has_byte a byte

abbrev pub is_atomic_load : Access → ℕ → Bool
is_atomic_load a byte = not a.store && a.atomic && has_byte a byte

-- the step makes an access that passes the test at the byte
abbrev pub Makes : (Access → ℕ → Bool) → Footprint → ℕ → Type 0
Makes test f byte = (a : Access) × Contains f.accesses a × IsTrue (test a byte)

-- Step j loads a byte atomically, and reads what step i stored: i is the last step before j that stores to the byte,
-- and it does so by atomic stores alone.
pub record IsReadBy (run : List Footprint) (i j byte : ℕ) : Type 0 where
  pub before : i < j
  pub load : Makes is_atomic_load (step_at run j) byte
  pub store : Makes is_atomic_store (step_at run i) byte
  pub atomic : ¬ Makes is_plain_store (step_at run i) byte
  pub last : (k : ℕ) → i < k → k < j → ¬ Makes is_store (step_at run k) byte

-- Step i comes right before a later step j: both are of one thread; i woke or started j's thread; i releases a lock
-- that j acquires, or tries to; i ended a thread that j joins; or j reads a byte atomically that i stored.
pub data Edge (run : List Footprint) (i j : ℕ) : Type 0 where
  in_thread : i < j → thread_at run i ≡ thread_at run j → Edge run i j
  started : i < j → IsTrue (wakes (step_at run i) (thread_at run j)) → Edge run i j
  handed_over : (lock : ℕ) → i < j → IsTrue (releases (step_at run i).event lock)
      → (step_at run j).event ≡ Acquire lock → Edge run i j
  joined : i < j → IsTrue (step_at run i).ended → (step_at run j).event ≡ Join (thread_at run i) → Edge run i j
  stored : (byte : ℕ) → IsReadBy run i j byte → Edge run i j

-- happens-before: the least transitive relation that contains the edges
pub data HappensBefore (run : List Footprint) : ℕ → ℕ → Type 0 where
  edge : {i j : ℕ} → Edge run i j → HappensBefore run i j
  chain : {i j k : ℕ} → HappensBefore run i j → HappensBefore run j k → HappensBefore run i k

-- A race: step i and a later step j of another thread have accesses that overlap, of which one is a store and one isn't
-- atomic, and i does not happen before j.
pub record IsRace (run : List Footprint) (i j : ℕ) : Type 0 where
  pub before : i < j
  pub apart : thread_at run i ≢ thread_at run j
  pub race : IsTrue (some_race (step_at run i).accesses (step_at run j).accesses)
  pub unordered : ¬ HappensBefore run i j

-- i is the greatest step that has a race with the later step j
pub record IsGreatestRace (run : List Footprint) (i j : ℕ) : Type 0 where
  pub race : IsRace run i j
  pub greatest : (k : ℕ) → i < k → ¬ IsRace run k j

-- no earlier step has a race with step j
abbrev pub HasNoRace : List Footprint → ℕ → Type 0
HasNoRace run j = (i : ℕ) → ¬ IsRace run i j

-- the races of the steps below n: each step with one has the greatest earlier step beside it, by rising second step
pub record AreRacesBelow (run : List Footprint) (n : ℕ) (pairs : List Pair) : Type 0 where
  pub within : All (λ p. p.second < n) pairs
  pub listed : All (λ p. IsGreatestRace run p.first p.second) pairs
  pub rising : AllPairs (λ p q. p.second < q.second) pairs
  pub complete : (i j : ℕ) → j < n → IsRace run i j → Any (λ p. p.second ≡ j) pairs

-- the races of a run
abbrev pub AreRaces : List Footprint → List Pair → Type 0
AreRaces run pairs = AreRacesBelow run (length run) pairs

-- A release sequence on a byte: a step that stores to it, and updates of the byte, each of which reads the one before
-- it.
pub data IsInSequence (run : List Footprint) (byte head : ℕ) : ℕ → Type 0 where
  first : IsInSequence run byte head head
  update : {u v : ℕ} → IsInSequence run byte head u → IsReadBy run u v byte → IsInSequence run byte head v
