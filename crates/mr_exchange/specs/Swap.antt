-- The swap law: two neighbouring steps of different threads, neither of which depends on the other, may be exchanged.
-- (Mazurkiewicz: traces; which steps are independent is this project's.)
use Rattle.std.specs.Prelude.{◌≡◌, ◌≢◌, ℕ, ◌<◌, false, List, length, Option, None, Some, slice_get, Any, Contains}
use Rattle.std.specs.FinMap as fin
use Rattle.std.specs.List.Sorted.{IsStrictlyIncreasing}
use Rattle.mr_base.specs.declared.byte.AllocId.{AllocId}
use Rattle.mr_base.specs.declared.thread.Event.{Event}
use Rattle.mr_mem.specs.Memory.{Allocation}
use Rattle.mr_event.specs.Footprints.{depends, wakes}
use Rattle.mr_sched.specs.declared.schedule.Ask.{Ask}
use Rattle.mr_sched.specs.declared.schedule.Ask.TheVariants.{Address, Waiter}
use Rattle.mr_base.specs.Script.{Went, run}
use Rattle.mr_start.specs.PlanLegal.{state_fault}
use Rattle.mr_start.specs.PlanMachine.{Completed, Creation, CreatesLock, CreatesNothing, CreatesThread, Flow, Goes}
use Rattle.mr_start.specs.PlanMachine.{Language, Plan, State, Thread, bare}
use Rattle.mr_start.specs.PlanNotes.{Notes, event_of, start_notes}
use Rattle.mr_start.specs.PlanRuns.{foot_in}
use Rattle.mr_start.specs.PlanQueries.{Shared, StepScript, answer}
use Rattle.mr_exchange.specs.Meets.{addresses}
use Rattle.mr_exchange.specs.Spots.{ActsOn, IsCreation, IsSpawn}

-- ---- what a language owes

-- a waiter of this lock is asked for
abbrev pub IsWaiter : ℕ → Ask → Type 0
IsWaiter l (Address size align) = ⊥
IsWaiter l (Waiter k) = k ≡ l

-- all events of a step are one
abbrev pub HasOneEvent : List Event → Type 0
HasOneEvent es = (e : Event) → Contains es e → event_of es ≡ e

-- what a step says that it creates, it creates, and a step that says nothing of it creates nothing
abbrev pub IsCreated : Creation → List Event → Type 0
IsCreated CreatesNothing es = (Any IsSpawn es → ⊥) × (Any IsCreation es → ⊥)
IsCreated CreatesThread es = Any IsSpawn es
IsCreated CreatesLock es = Any IsCreation es

-- a thread that is handed out was started
abbrev pub IsStarted : {L : Type 0} → Option L → List Event → Type 0
IsStarted None es = Unit {0}
IsStarted (Some new) es = Any IsSpawn es

-- A step that goes makes the allocations that it asked for, in this order; it has one event at most; it creates what it
-- said; it starts a thread where it hands one out; and the threads that it wakes rise.
pub record StepTold {L : Type 0} (plan : Plan (StepScript (Flow L))) (picks : List ℕ)
    (started : Option L) (n : Notes) : Type 0 where
  pub allocates : n.tally.ranges ≡ addresses plan.asks picks
  pub one_event : HasOneEvent n.events
  pub creates : IsCreated plan.creates n.events
  pub starts : IsStarted started n.events
  pub rises : IsStrictlyIncreasing n.woken

-- THE LANGUAGE'S PART OF THE LAW: a waiter is asked for where its lock was looked at, and each step that goes tells
-- what it does.
pub record IsTelling {L : Type 0} (step : Language L) : Type 0 where
  pub looked :
      (own : L) (s s1 : Shared) (t count : ℕ) (n : Notes) (plan : Plan (StepScript (Flow L)))
      → run answer (step.next own) (s, start_notes t count) ≡ Went plan (s1, n)
      → (l : ℕ) → Any (IsWaiter l) plan.asks → Any (ActsOn l) n.events
  pub told :
      (own : L) (s s1 s2 : Shared) (t count : ℕ) (n1 n : Notes) (plan : Plan (StepScript (Flow L)))
      (picks : List ℕ) (after : L) (started : Option L)
      → run answer (step.next own) (s, start_notes t count) ≡ Went plan (s1, n1)
      → run answer (plan.go picks) (s1, n1) ≡ Went (Goes after started) (s2, n) → StepTold plan picks started n

-- ---- the law

-- What each state of a legal run keeps: each allocation is one that its thread counted, and each thread has a status.
pub record IsSane {L : Type 0} (s : State L) : Type 0 where
  pub counted :
      (id : AllocId) (a : Allocation) → fin.get s.shared.memory id ≡ Some a
      → (th : Thread L) → slice_get s.threads id.thread ≡ Some th → id.count < th.count
  pub has_thread :
      (id : AllocId) (a : Allocation) → fin.get s.shared.memory id ≡ Some a → id.thread < length s.threads
  pub numbered : length s.threads ≡ length s.shared.statuses

-- the two entries in the other order break no rule, and their steps complete with the same notes and footprints and
-- lead to the same state
pub record AreExchanged {L : Type 0} (step : Language L) (s s1 s2 : State L) (t u : ℕ) (ps qs : List ℕ)
    (nf ng : Notes) : Type 0 where
  pub between : State L
  pub second_legal : state_fault step s u qs ≡ None
  pub second_first : bare step s u qs ≡ Completed ng between
  pub first_legal : state_fault step between t ps ≡ None
  pub first_second : bare step between t ps ≡ Completed nf s2
  pub second_foot : foot_in step ng between ≡ foot_in step ng s2
  pub first_foot : foot_in step nf s2 ≡ foot_in step nf s1

-- THE SWAP LAW: of two steps of different threads, one directly behind the other, where the first doesn't wake the
-- thread of the second, and the second doesn't depend on the first
abbrev pub SwapLaw : {L : Type 0} → Language L → Type 0
SwapLaw {L} step =
    (s s1 s2 : State L) (t u : ℕ) (ps qs : List ℕ) (nf ng : Notes) → IsSane s → t ≢ u
    → state_fault step s t ps ≡ None → bare step s t ps ≡ Completed nf s1
    → state_fault step s1 u qs ≡ None → bare step s1 u qs ≡ Completed ng s2
    → wakes (foot_in step nf s1) u ≡ false → depends (foot_in step nf s1) (foot_in step ng s2) ≡ false
    → AreExchanged step s s1 s2 t u ps qs nf ng
