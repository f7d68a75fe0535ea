-- What a legal entry has: no fault of any part, and as many picks as are asked for.
use Rattle.mr_plan.proofs.Common.{◌≡◌, ℕ, suc, ◌+◌, refl, ap, List, [], ◌∷◌, length, Option, Some, None, Bool, true, false, slice_get, if◌then◌else◌}
use Rattle.mr_base.specs.declared.thread.Status.{Status}
use Rattle.mr_mem.specs.Memory.{Ranges, range_fault, with_range}
use Rattle.mr_sched.specs.declared.schedule.Ask.{Ask}
use Rattle.mr_sched.specs.declared.schedule.Ask.TheVariants.{Address, Waiter}
use Rattle.mr_sync.specs.Tables.{on_lock}
use Rattle.mr_plan.specs.Legal.{Fault, address_fault, else_fault, fault, picks_fault}
use Rattle.mr_sched.specs.declared.rule.ScheduleRule.TheVariants as rule

pub no_faults : (a b : Option Fault) → else_fault a b ≡ None → (a ≡ None) × (b ≡ None)
no_faults None b h = (refl, h)
no_faults (Some f) b h = absurd (cc)

-- a waiter that waits
waits_there : (b : Bool) (rest : Option Fault) → (if b then rest else fault rule.NotWaiting) ≡ None → (b ≡ true) × (rest ≡ None)
waits_there true rest h = (refl, h)
waits_there false rest h = absurd (cc)

pub picks_length : (ss : List Status) (rs : Ranges) (t count : ℕ) (asks : List Ask) (picks : List ℕ) → picks_fault ss rs t count asks picks ≡ None → length picks ≡ length asks
picks_length ss rs t count [] [] h = refl
picks_length ss rs t count [] (pick ∷ picks) h = absurd (cc)
picks_length ss rs t count (ask ∷ asks) [] h = absurd (cc)
picks_length ss rs t count (Address size align ∷ asks) (addr ∷ picks) h =
    let parts = no_faults (address_fault (range_fault rs addr size align)) (picks_fault ss (with_range rs (record { thread = t; count = count }) addr size) t (count + 1) asks picks) h in
    ap suc (picks_length ss (with_range rs (record { thread = t; count = count }) addr size) t (count + 1) asks picks parts.1)
picks_length ss rs t count (Waiter lock ∷ asks) (thread ∷ picks) h =
    ap suc (picks_length ss rs t count asks picks (waits_there (on_lock lock (slice_get ss thread)) (picks_fault ss rs t count asks picks) h).1)

-- a single waiter
pub one_waiter : (ss : List Status) (rs : Ranges) (t count lock thread : ℕ) → picks_fault ss rs t count (Waiter lock ∷ []) (thread ∷ []) ≡ None → on_lock lock (slice_get ss thread) ≡ true
one_waiter ss rs t count lock thread h = (waits_there (on_lock lock (slice_get ss thread)) (picks_fault ss rs t count [] []) h).0
