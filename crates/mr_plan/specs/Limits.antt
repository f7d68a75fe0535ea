-- What each state of a legal run keeps of the machine's limits. (MiniRust, lang: the machine.)
use Rattle.std.specs.Prelude.{◌≡◌, ◌+◌, ◌≤◌, ◌^◌, length, Some}
use Rattle.std.specs.FinMap as fin
use Rattle.mr_base.specs.Limits.{max_locks, max_threads}
use Rattle.mr_base.specs.declared.byte.AllocId.{AllocId}
use Rattle.mr_mem.specs.Memory.{Allocation, Memory}
use Rattle.mr_plan.specs.Machine.{State}
use Rattle.mr_plan.specs.Runs.{Config}

-- an allocation has its bytes in its range, which ends where the addresses do or before
abbrev pub IsPlaced : Allocation → Type 0
IsPlaced a = (length a.bytes ≤ a.span) × (a.addr + a.span ≤ 2 ^ 64)

-- so has each, dead or live
abbrev pub ArePlaced : Memory → Type 0
ArePlaced m = (id : AllocId) (a : Allocation) → fin.get m id ≡ Some a → IsPlaced a

-- WHAT A STATE KEEPS: no more than 1,024 threads and 4,096 locks, and each allocation lies among the addresses
pub record IsWithin {L : Type 0} (s : State L) : Type 0 where
  pub threads : length s.shared.statuses ≤ max_threads
  pub locks : length s.shared.holders ≤ max_locks
  pub placed : ArePlaced s.shared.memory

-- the state of a machine, as long as there is one, keeps it
abbrev pub AreWithin : {L : Type 0} → Config L → Type 0
AreWithin {L} c = (s : State L) → c.state ≡ Some s → IsWithin s
