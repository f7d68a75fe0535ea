-- When picks meet what a step asks for. No order of the ranges that are taken plays a part, and identities only name
-- them.
use Rattle.std.specs.Prelude.{◌≡◌, ℕ, ◌+◌, ◌<◌, ◌⊎◌, true, false, List, [], ◌∷◌, length, Some, slice_get, Contains}
use Rattle.std.specs.FinMap as fin
use Rattle.mr_base.specs.Limits.{max_locks, max_threads}
use Rattle.mr_base.specs.declared.byte.AllocId.{AllocId}
use Rattle.mr_base.specs.declared.thread.Status.{Status}
use Rattle.mr_base.specs.declared.thread.Status.TheVariants.{Enabled}
use Rattle.mr_base.specs.Pairs.{are_meeting}
use Rattle.mr_mem.specs.Memory.{Allocation, Memory, Range, Ranges, is_bad_address, ranges_of, with_range}
use Rattle.mr_sched.specs.declared.schedule.Ask.{Ask}
use Rattle.mr_sched.specs.declared.schedule.Ask.TheVariants.{Address, Waiter}
use Rattle.mr_start.specs.SyncTables.{on_lock}
use Rattle.mr_start.specs.PlanQueries.{Shared}
use Rattle.mr_start.specs.PlanMachine.{Creation, CreatesLock, CreatesNothing, CreatesThread, Language, State, needs}

-- two ranges, each an address and a size, share no address
abbrev pub AreApart : ℕ × ℕ → ℕ × ℕ → Type 0
AreApart r q = are_meeting r q ≡ false

-- a range is some identity's
abbrev pub IsTaken : Ranges → ℕ × ℕ → Type 0
IsTaken rs q = (id : AllocId) × Contains rs (id, record { addr = q.0; size = q.1 })

-- it is apart from the range of each identity
abbrev pub IsClear : Ranges → ℕ × ℕ → Type 0
IsClear rs r = (id : AllocId) (q : Range) → Contains rs (id, q) → AreApart r (q.addr, q.size)

-- it is apart from each of these
abbrev pub IsApartFrom : List (ℕ × ℕ) → ℕ × ℕ → Type 0
IsApartFrom es r = (q : ℕ × ℕ) → Contains es q → AreApart r q

-- The picks meet the asks, one by one, where the entry has picked the ranges es so far: an address that isn't bad and
-- whose range is clear of what is taken and apart from the entry's earlier ones, a thread that waits for the lock, and
-- nothing is left over.
abbrev pub MeetsAfter : List Status → Ranges → List (ℕ × ℕ) → List Ask → List ℕ → Type 0
MeetsAfter ss rs es [] [] = Unit {0}
MeetsAfter ss rs es [] (pick ∷ picks) = ⊥
MeetsAfter ss rs es (ask ∷ asks) [] = ⊥
MeetsAfter ss rs es (Address size align ∷ asks) (addr ∷ picks) =
    (is_bad_address addr size align ≡ false)
    × IsClear rs (addr, size)
    × IsApartFrom es (addr, size)
    × MeetsAfter ss rs ((addr, size) ∷ es) asks picks
MeetsAfter ss rs es (Waiter lock ∷ asks) (thread ∷ picks) =
    (on_lock lock (slice_get ss thread) ≡ true) × MeetsAfter ss rs es asks picks

-- THE PICKS MEET THE ASKS
abbrev pub Meets : List Status → Ranges → List Ask → List ℕ → Type 0
Meets ss rs asks picks = MeetsAfter ss rs [] asks picks

-- the ranges that are picked
abbrev pub addresses : List Ask → List ℕ → List (ℕ × ℕ)
addresses [] picks = []
addresses (ask ∷ asks) [] = []
addresses (Address size align ∷ asks) (addr ∷ picks) = (addr, size) ∷ addresses asks picks
addresses (Waiter lock ∷ asks) (thread ∷ picks) = addresses asks picks

-- the locks with the threads that are picked for them
abbrev pub waiters : List Ask → List ℕ → List (ℕ × ℕ)
waiters [] picks = []
waiters (ask ∷ asks) [] = []
waiters (Address size align ∷ asks) (addr ∷ picks) = waiters asks picks
waiters (Waiter lock ∷ asks) (thread ∷ picks) = (lock, thread) ∷ waiters asks picks

-- a thread's identities from this count on are new
abbrev pub AreNew : Ranges → ℕ → ℕ → Type 0
AreNew rs t count = (id : AllocId) (q : Range) → Contains rs (id, q) → id.thread ≡ t → id.count < count

-- the same over a memory
abbrev pub AreNewIn : Memory → ℕ → ℕ → Type 0
AreNewIn m t count = (id : AllocId) (a : Allocation) → fin.get m id ≡ Some a → id.thread ≡ t → id.count < count

-- the ranges behind an entry, whose allocations get the thread's next identities
abbrev pub ranges_after : Ranges → ℕ → ℕ → List Ask → List ℕ → Ranges
ranges_after rs t count [] picks = rs
ranges_after rs t count (ask ∷ asks) [] = rs
ranges_after rs t count (Address size align ∷ asks) (addr ∷ picks) =
    ranges_after (with_range rs (record { thread = t; count = count }) addr size) t (count + 1) asks picks
ranges_after rs t count (Waiter lock ∷ asks) (thread ∷ picks) = ranges_after rs t count asks picks

-- these threads wait for these locks
abbrev pub AreWaiting : List Status → List (ℕ × ℕ) → Type 0
AreWaiting ss ws = (l w : ℕ) → Contains ws (l, w) → on_lock l (slice_get ss w) ≡ true

-- What was taken is taken, and so are the ranges es.
abbrev pub TakesAlso : Ranges → List (ℕ × ℕ) → Ranges → Type 0
TakesAlso rs es rs' =
    ((q : ℕ × ℕ) → IsTaken rs q → IsTaken rs' q) × ((q : ℕ × ℕ) → Contains es q → IsTaken rs' q)

-- Nothing is taken but what was taken, and the ranges es.
abbrev pub TakesOnly : Ranges → List (ℕ × ℕ) → Ranges → Type 0
TakesOnly rs es rs' = (q : ℕ × ℕ) → IsTaken rs' q → IsTaken rs q ⊎ Contains es q

-- What two neighbouring entries come to, once exchanged: the picks of the second are apart from those of the first, and
-- meet its asks without it; and those of the first meet its asks behind the second.
pub record Exchanged (ss0 ss2 : List Status) (rs0 rs2 : Ranges) (asks : List Ask) (picks : List ℕ)
    (asks' : List Ask) (picks' : List ℕ) : Type 0 where
  pub apart :
      (r q : ℕ × ℕ) → Contains (addresses asks picks) r → Contains (addresses asks' picks') q → AreApart q r
  pub second : Meets ss0 rs0 asks' picks'
  pub first : Meets ss2 rs2 asks picks

-- there may be one more of what a step creates
abbrev pub HasRoom : Shared → Creation → Type 0
HasRoom s CreatesNothing = Unit {0}
HasRoom s CreatesThread = length s.statuses < max_threads
HasRoom s CreatesLock = length s.holders < max_locks

-- An entry of thread t with these picks is legal, as far as its bare step goes: the thread is enabled, there is room
-- for what its step creates, and the picks meet what it asks for.
pub record IsLegalEntry {L : Type 0} (step : Language L) (s : State L) (t : ℕ) (picks : List ℕ) : Type 0 where
  pub enabled : slice_get s.shared.statuses t ≡ Some Enabled
  pub room : HasRoom s.shared (needs step s t).creates
  pub met : Meets s.shared.statuses (ranges_of s.shared.memory) (needs step s t).asks picks
