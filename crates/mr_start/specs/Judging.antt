-- How an entry's picks are judged.
use Rattle.std.specs.Prelude.{ℕ, ◌+◌, List, [], ◌∷◌, Option, None, Some, slice_get, if◌then◌else◌}
use Rattle.std.specs.Ordering.{is_lt}
use Rattle.mr_base.specs.declared.byte.AllocId.{AllocId}
use Rattle.mr_base.specs.declared.thread.Status.{Status}
use Rattle.mr_mem.specs.Memory.{Memory, Ranges, first_overlapped, id_cmp, is_bad_address, ranges_of, reused}
use Rattle.mr_mem.specs.declared.fault.PickFault.TheVariants.{BadAddress}
use Rattle.mr_sched.specs.declared.schedule.Ask.{Ask}
use Rattle.mr_sched.specs.declared.schedule.Ask.TheVariants.{Address, Waiter}
use Rattle.mr_sync.specs.Tables.{on_lock}
use Rattle.mr_frame.specs.PlanLegal.{Fault, address_fault, fault}
use Rattle.mr_start.specs.declared.failure.PickFailure.{PickFailure}
use Rattle.mr_sched.specs.declared.rule.ScheduleRule.TheVariants as rule

-- a failure is the rule that is broken
abbrev pub fault_of : PickFailure → Fault
fault_of f = record { code = f.code; earlier = f.earlier }

-- the ranges of the allocations that the thread makes at these picks, by their identities
abbrev pub picked : ℕ → ℕ → List Ask → List ℕ → Ranges
picked t count [] picks = []
picked t count (ask ∷ asks) [] = []
picked t count (Address size align ∷ asks) (addr ∷ picks) =
    (record { thread = t; count = count }, record { addr = addr; size = size }) ∷ picked t (count + 1) asks picks
picked t count (Waiter lock ∷ asks) (thread ∷ picks) = picked t count asks picks

-- the lesser of two identities
abbrev pub least : Option AllocId → Option AllocId → Option AllocId
least None b = b
least (Some a) None = Some a
least (Some a) (Some b) = if is_lt (id_cmp b a) then Some b else Some a

-- the rule that an address breaks over a memory and an identity whose range it overlaps
abbrev pub address_among : Memory → Option AllocId → ℕ → ℕ → ℕ → Option Fault
address_among m earlier addr size align =
    address_fault
    (if is_bad_address addr size align then Some BadAddress
    else reused (least (first_overlapped addr size (ranges_of m)) earlier))

-- the rule that a thread breaks which is to get a lock
abbrev pub waiter_fault : List Status → ℕ → ℕ → Option Fault
waiter_fault ss lock thread = if on_lock lock (slice_get ss thread) then None else fault rule.NotWaiting
