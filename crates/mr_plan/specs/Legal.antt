-- Which entries of a schedule are legal, and the first rule that an entry breaks.
use Rattle.std.specs.Prelude.{ℕ, ◌+◌, List, [], ◌∷◌, length, Option, None, Some, slice_get, if◌then◌else◌, nat_lt}
use Rattle.mr_base.specs.Limits.{max_locks, max_threads}
use Rattle.mr_base.specs.declared.byte.AllocId.{AllocId}
use Rattle.mr_base.specs.declared.thread.Status.{Status}
use Rattle.mr_base.specs.declared.thread.Status.TheVariants.{Enabled}
use Rattle.mr_mem.specs.Memory.{Ranges, ranges_of, range_fault, with_range}
use Rattle.mr_mem.specs.declared.fault.PickFault.{PickFault}
use Rattle.mr_mem.specs.declared.fault.PickFault.TheVariants.{BadAddress, Reused}
use Rattle.mr_sched.specs.declared.schedule.Ask.{Ask}
use Rattle.mr_sched.specs.declared.schedule.Ask.TheVariants.{Address, Waiter}
use Rattle.mr_sync.specs.Tables.{on_lock}
use Rattle.mr_plan.specs.Queries.{Shared}
use Rattle.mr_plan.specs.Machine.{State, Language, Thread, Creation, CreatesNothing, CreatesThread, CreatesLock, Needs}
use Rattle.mr_plan.specs.Machine.{needs}
use Rattle.mr_sched.specs.declared.rule.ScheduleRule.{ScheduleRule}
use Rattle.mr_sched.specs.declared.rule.ScheduleRule.TheVariants as rule
use Rattle.mr_sched.specs.Rules.{code_of}

-- the number of the rule that an entry breaks; of a range that is used again with the identity whose range it overlaps
pub record Fault : Type 0 where
  pub code : ℕ
  pub earlier : Option AllocId

-- a broken rule of which no earlier allocation is told
abbrev pub fault : ScheduleRule → Option Fault
fault broken = Some (record { code = code_of broken; earlier = None })

-- the first of two faults
abbrev pub else_fault : Option Fault → Option Fault → Option Fault
else_fault None later = later
else_fault (Some f) later = Some f

-- why an address can't be picked, as a broken rule
abbrev pub address_fault : Option PickFault → Option Fault
address_fault None = None
address_fault (Some BadAddress) = fault rule.BadAddress
address_fault (Some (Reused id)) = Some (record { code = code_of rule.Reused; earlier = Some id })

-- Pick by pick, and a pick too many at the end; an address is tried among all ranges so far and of the earlier picks.
abbrev pub picks_fault : List Status → Ranges → ℕ → ℕ → List Ask → List ℕ → Option Fault
picks_fault ss rs t count [] [] = None
picks_fault ss rs t count [] (pick ∷ picks) = fault rule.ExtraPick
picks_fault ss rs t count (ask ∷ asks) [] = fault rule.MissingPick
picks_fault ss rs t count (Address size align ∷ asks) (addr ∷ picks) =
    else_fault (address_fault (range_fault rs addr size align))
    (picks_fault ss (with_range rs (record { thread = t; count = count }) addr size) t (count + 1) asks picks)
picks_fault ss rs t count (Waiter lock ∷ asks) (thread ∷ picks) =
    if on_lock lock (slice_get ss thread) then picks_fault ss rs t count asks picks else fault rule.NotWaiting

-- a thread or a lock too many; an ended thread exists still
abbrev pub creation_fault : Shared → Creation → Option Fault
creation_fault s CreatesNothing = None
creation_fault s CreatesThread = if nat_lt (length s.statuses) max_threads then None else fault rule.TooManyThreads
creation_fault s CreatesLock = if nat_lt (length s.holders) max_locks then None else fault rule.TooManyLocks

-- whether the thread can go on
abbrev pub status_fault : Option Status → Option Fault
status_fault (Some Enabled) = None
status_fault _ = fault rule.NotEnabled

-- how many allocations a thread made so far
abbrev pub count_of : {L : Type 0} → Option (Thread L) → ℕ
count_of None = 0
count_of (Some th) = th.count

-- the first rule that the picks break, given what the step needs: of threads and locks, then of each pick
abbrev pub needs_fault : Shared → ℕ → ℕ → Needs → List ℕ → Option Fault
needs_fault s t count n picks =
    else_fault (creation_fault s n.creates) (picks_fault s.statuses (ranges_of s.memory) t count n.asks picks)

-- THE FIRST RULE that the entry of thread t with these picks breaks in a state in which the machine runs
abbrev pub state_fault : {L : Type 0} → Language L → State L → ℕ → List ℕ → Option Fault
state_fault step s t picks =
    else_fault (status_fault (slice_get s.shared.statuses t))
    (needs_fault s.shared t (count_of (slice_get s.threads t)) (needs step s t) picks)
