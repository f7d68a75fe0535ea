-- The limits that each footprint of the machine keeps.
use Rattle.std.specs.Prelude.{◌+◌, ◌<◌, ◌≤◌, ◌^◌, All}
use Rattle.std.specs.List.Sorted.{IsStrictlyIncreasing}
use Rattle.mr_base.specs.Limits.{max_locks, max_threads}
use Rattle.mr_base.specs.declared.access.Access.{Access}
use Rattle.mr_base.specs.declared.thread.Event.{Event}
use Rattle.mr_base.specs.declared.thread.Event.TheVariants.{Quiet, CreateLock, Acquire, Release, Spawn, Join}
use Rattle.mr_event.specs.Footprint.{Footprint}

-- a lock is one of 4,096, a thread that is spawned or joined one of 1,024
abbrev pub IsEventOk : Event → Type 0
IsEventOk Quiet = Unit {0}
IsEventOk (CreateLock lock) = lock < max_locks
IsEventOk (Acquire lock) = lock < max_locks
IsEventOk (Release lock) = lock < max_locks
IsEventOk (Spawn thread) = thread < max_threads
IsEventOk (Join thread) = thread < max_threads

-- an access has a byte, and ends where the addresses do or before
abbrev pub IsAccessOk : Access → Type 0
IsAccessOk a = (0 < a.len) × (a.addr + a.len ≤ 2 ^ 64)

-- each thread is one of 1,024, its own, the woken ones and those that made the allocations; the woken ones rise; the
-- event and each access keep their limits
pub record IsFootOk (f : Footprint) : Type 0 where
  pub thread : f.thread < max_threads
  pub woken : All (λ t. t < max_threads) f.woken
  pub rising : IsStrictlyIncreasing f.woken
  pub event : IsEventOk f.event
  pub allocated : All (λ a. a.thread < max_threads) f.allocated
  pub freed : All (λ a. a.thread < max_threads) f.freed
  pub touched : All (λ a. a.thread < max_threads) f.touched
  pub accesses : All IsAccessOk f.accesses
