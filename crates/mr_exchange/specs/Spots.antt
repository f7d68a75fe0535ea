-- At which places of all that threads share a step reads and writes, as its notes tell.
use Rattle.std.specs.Prelude.{◌≡◌, ℕ, ◌⊎◌, Bool, true, false, Option, Some, length, slice_get, Any, Contains}
use Rattle.mr_base.specs.declared.thread.Event.{Event}
use Rattle.mr_base.specs.declared.thread.Event.TheVariants.{Quiet, CreateLock, Acquire, Release, Spawn, Join}
use Rattle.mr_base.specs.declared.thread.Status.TheVariants.{Enabled}
use Rattle.mr_start.specs.SyncTables.{on_join, on_lock, over}
use Rattle.mr_start.specs.PlanNotes.{Notes}
use Rattle.mr_start.specs.PlanPlaces.{AtMemory, MemoryPlace, ReadsMemory, WritesMemory, in_memory}
use Rattle.mr_start.specs.PlanQueries.{Shared}

-- A spot: a place of memory; the holder of a lock; how many locks and how many threads there are; whether a thread
-- ended; whether a thread waits for a lock, or for the end of a thread.
pub data Spot : Type 0 where
  InMemory : (o : MemoryPlace) → Spot
  Holder : (lock : ℕ) → Spot
  LockCount : Spot
  ThreadCount : Spot
  Over : (thread : ℕ) → Spot
  WaitsLock : (thread lock : ℕ) → Spot
  WaitsJoin : (thread target : ℕ) → Spot

-- what can stand at a spot
abbrev pub At : Spot → Type 0
At (InMemory o) = AtMemory o
At (Holder l) = Option (Option ℕ)
At LockCount = ℕ
At ThreadCount = ℕ
At (Over t) = Option Bool
At (WaitsLock t l) = Bool
At (WaitsJoin t u) = Bool

-- what stands there
abbrev pub at_spot : Shared → (o : Spot) → At o
at_spot s (InMemory o) = in_memory s.memory o
at_spot s (Holder l) = slice_get s.holders l
at_spot s LockCount = length s.holders
at_spot s ThreadCount = length s.statuses
at_spot s (Over t) = over (slice_get s.statuses t)
at_spot s (WaitsLock t l) = on_lock l (slice_get s.statuses t)
at_spot s (WaitsJoin t u) = on_join u (slice_get s.statuses t)

-- the event is one of a lock
abbrev pub ActsOn : ℕ → Event → Type 0
ActsOn l (CreateLock k) = k ≡ l
ActsOn l (Acquire k) = k ≡ l
ActsOn l (Release k) = k ≡ l
ActsOn l (Spawn t) = ⊥
ActsOn l (Join t) = ⊥
ActsOn l Quiet = ⊥

-- the event creates a lock
abbrev pub IsCreation : Event → Type 0
IsCreation (CreateLock k) = Unit {0}
IsCreation _ = ⊥

-- the event starts a thread
abbrev pub IsSpawn : Event → Type 0
IsSpawn (Spawn t) = Unit {0}
IsSpawn _ = ⊥

-- the step ended this thread, which is its own
abbrev pub EndsThread : Notes → ℕ → Type 0
EndsThread n t = (n.ended ≡ true) × (n.tally.thread ≡ t)

-- The step looked there: at memory where it noted so, at a lock and its waiters where its event is one of the lock, at
-- how many there are where it made one more, at a thread's end where it joins it, and at who waits for its own end.
abbrev pub Reads : Notes → Spot → Type 0
Reads n (InMemory o) = ReadsMemory n.tally o
Reads n (Holder l) = Any (ActsOn l) n.events
Reads n LockCount = Any IsCreation n.events
Reads n ThreadCount = Any IsSpawn n.events
Reads n (Over t) = Contains n.events (Join t)
Reads n (WaitsLock t l) = Any (ActsOn l) n.events
Reads n (WaitsJoin t u) = EndsThread n u

-- The step may have changed what stands there.
abbrev pub Writes : Notes → Spot → Type 0
Writes n (InMemory o) = WritesMemory n.tally o
Writes n (Holder l) = Any (ActsOn l) n.events
Writes n LockCount = Any IsCreation n.events
Writes n ThreadCount = Any IsSpawn n.events
Writes n (Over t) = Contains n.events (Spawn t) ⊎ EndsThread n t
Writes n (WaitsLock t l) = Any (ActsOn l) n.events
Writes n (WaitsJoin t u) = (Contains n.events (Join u) × (n.tally.thread ≡ t)) ⊎ EndsThread n u

-- while it runs, the thread is enabled
abbrev pub IsGoing : Shared → Notes → Type 0
IsGoing s n = n.stopped ≡ false → slice_get s.statuses n.tally.thread ≡ Some Enabled
