-- An entry that breaks a rule of a pick breaks some rule with fewer picks too.
use Rattle.mr_next.proofs.Common.{◌≡◌, ℕ, zero, suc, ◌+◌, ◌-◌, ◌<◌, ◌≤◌, refl, ap, ◌∙◌, arith, List, [], ◌∷◌, take, Bool, false, Option, Some, None, if◌then◌else◌, slice_get, find, range_with_len, Entry, Fault, State, needs, Look, Own, thread_step, program_fault, is_of_pick}
use Rattle.std.proofs.Common.{true}
use Rattle.std.proofs.lemmas.Option.{same_Some}
use Rattle.mr_base.specs.declared.thread.Status.{Status}
use Rattle.mr_step.specs.MemMemory.{Ranges, range_fault, ranges_of, with_range}
use Rattle.mr_sched.specs.declared.schedule.Ask.{Ask}
use Rattle.mr_sched.specs.declared.schedule.Ask.TheVariants.{Address, Waiter}
use Rattle.mr_step.specs.SyncTables.{on_lock}
use Rattle.mr_step.specs.PlanLegal.{address_fault, count_of, creation_fault, else_fault, fault, needs_fault, picks_fault, state_fault, status_fault}
use Rattle.mr_step.specs.PlanRuns.{Config, entry_fault, fault_in, is_running}
use Rattle.mr_next.specs.Culprits.{with_picks}
use Rattle.mr_sched.specs.declared.rule.ScheduleRule.TheVariants as rule

-- there is a fault
pub record IsSome (o : Option Fault) : Type 0 where
  pub broken : Fault
  pub is : o ≡ Some broken

some_fault : (f : Fault) → IsSome (Some f)
some_fault f = record { broken = f; is = refl }

-- of two faults there is the first
first_fault : (o later : Option Fault) → IsSome later → IsSome (else_fault o later)
first_fault None later h = h
first_fault (Some f) later h = some_fault f

-- a fault of picks stays one with fewer of them
picks_cut : (ss : List Status) (rs : Ranges) (t count : ℕ) (asks : List Ask) (picks : List ℕ) (k : ℕ) (f : Fault) → picks_fault ss rs t count asks picks ≡ Some f → is_of_pick f.code ≡ true
    → IsSome (picks_fault ss rs t count asks (take k picks))
picks_cut ss rs t count [] [] k f h of_pick = absurd (cc)
picks_cut ss rs t count [] (pick ∷ picks) k f h of_pick =
    let same = ap (λ (g : Fault). is_of_pick g.code) (same_Some _ f h) in
    absurd (cc)
picks_cut ss rs t count (ask ∷ asks) [] k f h of_pick =
    let same = ap (λ (g : Fault). is_of_pick g.code) (same_Some _ f h) in
    absurd (cc)
picks_cut ss rs t count (ask ∷ asks) (pick ∷ picks) zero f h of_pick = some_fault _
picks_cut ss rs t count (Address size align ∷ asks) (addr ∷ picks) (suc k) f h of_pick =
    by (address_fault (range_fault rs addr size align)) h (λ e. picks_cut ss (with_range rs (record { thread = t; count = count }) addr size) t (count + 1) asks picks k f e of_pick)
  where
    by : (o : Option Fault) → else_fault o (picks_fault ss (with_range rs (record { thread = t; count = count }) addr size) t (count + 1) asks picks) ≡ Some f
        → (picks_fault ss (with_range rs (record { thread = t; count = count }) addr size) t (count + 1) asks picks ≡ Some f
        → IsSome (picks_fault ss (with_range rs (record { thread = t; count = count }) addr size) t (count + 1) asks (take k picks)))
        → IsSome (else_fault o (picks_fault ss (with_range rs (record { thread = t; count = count }) addr size) t (count + 1) asks (take k picks)))
    by None e more = more e
    by (Some g) e more = some_fault g
picks_cut ss rs t count (Waiter lock ∷ asks) (thread ∷ picks) (suc k) f h of_pick =
    by (on_lock lock (slice_get ss thread)) h (λ e. picks_cut ss rs t count asks picks k f e of_pick)
  where
    by : (b : Bool) → (if b then picks_fault ss rs t count asks picks else fault rule.NotWaiting) ≡ Some f
        → (picks_fault ss rs t count asks picks ≡ Some f → IsSome (picks_fault ss rs t count asks (take k picks)))
        → IsSome (if b then picks_fault ss rs t count asks (take k picks) else fault rule.NotWaiting)
    by true e more = more e
    by false e more = some_fault _

-- and so does one of an entry, in a state
state_cut : (look : Look) (s : State Own) (t : ℕ) (picks : List ℕ) (k : ℕ) (f : Fault) → state_fault (thread_step look) s t picks ≡ Some f → is_of_pick f.code ≡ true → IsSome (state_fault (thread_step look) s t (take k picks))
state_cut look s t picks k f h of_pick = by_status (status_fault (slice_get s.shared.statuses t)) h
  where
    cut : picks_fault s.shared.statuses (ranges_of s.shared.memory) t (count_of (slice_get s.threads t)) (needs (thread_step look) s t).asks picks ≡ Some f
        → IsSome (picks_fault s.shared.statuses (ranges_of s.shared.memory) t (count_of (slice_get s.threads t)) (needs (thread_step look) s t).asks (take k picks))
    cut e = picks_cut s.shared.statuses (ranges_of s.shared.memory) t (count_of (slice_get s.threads t)) (needs (thread_step look) s t).asks picks k f e of_pick

    by_creation : (o : Option Fault) → else_fault o (picks_fault s.shared.statuses (ranges_of s.shared.memory) t (count_of (slice_get s.threads t)) (needs (thread_step look) s t).asks picks) ≡ Some f
        → IsSome (else_fault o (picks_fault s.shared.statuses (ranges_of s.shared.memory) t (count_of (slice_get s.threads t)) (needs (thread_step look) s t).asks (take k picks)))
    by_creation None e = cut e
    by_creation (Some g) e = some_fault g

    by_status : (o : Option Fault) → else_fault o (needs_fault s.shared t (count_of (slice_get s.threads t)) (needs (thread_step look) s t) picks) ≡ Some f
        → IsSome (else_fault o (needs_fault s.shared t (count_of (slice_get s.threads t)) (needs (thread_step look) s t) (take k picks)))
    by_status None e = by_creation (creation_fault s.shared (needs (thread_step look) s t).creates) e
    by_status (Some g) e = some_fault g

-- AN ENTRY THAT BREAKS A RULE OF A PICK breaks some rule with its first picks alone
pub still_broken : (look : Look) (c : Config Own) (e : Entry) (k : ℕ) (f : Fault) → program_fault look c e ≡ Some f → is_of_pick f.code ≡ true → IsSome (program_fault look c (with_picks e k))
unfolding entry_fault
still_broken look c e k f h of_pick = by_verdict (is_running c.verdict) h
  where
    by_state : (o : Option (State Own)) → fault_in (thread_step look) e.thread e.picks o ≡ Some f → IsSome (fault_in (thread_step look) e.thread (take k e.picks) o)
    by_state None d = some_fault _
    by_state (Some s) d = state_cut look s e.thread e.picks k f d of_pick

    by_verdict : (b : Bool) → (if b then fault_in (thread_step look) e.thread e.picks c.state else fault rule.AfterStop) ≡ Some f
        → IsSome (if b then fault_in (thread_step look) e.thread (take k e.picks) c.state else fault rule.AfterStop)
    by_verdict true d = by_state c.state d
    by_verdict false d = some_fault _

-- ---- the first of some positions

module _ (p : ℕ → Bool) (n i : ℕ) (lt : i < n) where
  range_here : range_with_len i (n - i) ≡ i ∷ range_with_len (i + 1) (n - (i + 1))
  range_here = let left : n - i ≡ suc (n - (i + 1)) = omega arith in ap (range_with_len i) left

  -- it is this one
  pub found_here : p i ≡ true → find p (range_with_len i (n - i)) ≡ Some i
  found_here e = ap (find p) range_here ∙ ap (λ (b : Bool). if b then Some i else find p (range_with_len (i + 1) (n - (i + 1)))) e

  -- it isn't
  pub found_later : p i ≡ false → find p (range_with_len i (n - i)) ≡ find p (range_with_len (i + 1) (n - (i + 1)))
  found_later e = ap (find p) range_here ∙ ap (λ (b : Bool). if b then Some i else find p (range_with_len (i + 1) (n - (i + 1)))) e

pub found_none : (p : ℕ → Bool) (n i : ℕ) → n ≤ i → find p (range_with_len i (n - i)) ≡ None
found_none p n i le = let none : n - i ≡ 0 = omega arith in ap (λ k. find p (range_with_len i k)) none
