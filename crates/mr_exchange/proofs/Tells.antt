-- What a plan of a step and its run tell of what the step does, as marks.
use Rattle.mr_exchange.proofs.Common.{◌≡◌, ℕ, ◌≤◌, refl, sym, subst, arith, List, [], ◌∷◌, Any, inl, inr, Contains-push, Contains-push_cases, Option, Ty, Event, align_of, size_of, Address, Val, Plan, storage_asks, addresses, ActsOn, IsCreation, IsSpawn, HasOneEvent, IsCreated, IsStarted, IsWaiter}
use Rattle.std.proofs.lemmas.List.Elements.{All-contains, All-map}
use Rattle.mr_sched.specs.declared.schedule.Ask.{Ask}
use Rattle.mr_exchange.specs.PlanMachine.{Aborts, CreatesNothing, Creation, Exits, Goes}
use Rattle.mr_exchange.specs.PlanQueries.{StepScript}
use Rattle.mr_start.specs.Steps.{Turn}
use Rattle.mr_exchange.proofs.PlanElementLaws.{Any-one, Contains-nil, Contains-one}
use Rattle.mr_exchange.proofs.Marks.{Marks, NewRanges, marked}
use Rattle.mr_exchange.proofs.Tracked.{Tracks}

-- ---- what is told

-- The new allocations are these; all events are one; what was to be created is, and nothing else; and threads are woken once at most.
pub record Tells (creation : Creation) (ranges : NewRanges) (e : Marks) : Type 0 where
  pub allocates : e.1 ≡ ranges
  pub one_event : HasOneEvent e.0.0
  pub creates : IsCreated creation e.0.0
  pub once : e.0.1 ≤ 1

-- An operation tells this, and gives a value or none.
abbrev pub OpTells : Creation → NewRanges → Option Val → Marks → Type 0
OpTells creation ranges v e = Tells creation ranges e

-- A turn of a thread that goes on tells it, and a thread that it hands out was started.
abbrev pub TurnTells : Creation → NewRanges → Turn → Marks → Type 0
TurnTells creation ranges (Goes own started) e = Tells creation ranges e × IsStarted started e.0.0
TurnTells creation ranges Exits e = Unit {0}
TurnTells creation ranges Aborts e = Unit {0}

-- A plan asks for a waiter only of a lock that was looked at, and with any picks it ends with P of what it creates and of the addresses that it picked.
pub record PlanTells {A : Type 0} (P : Creation → NewRanges → A → Marks → Type 0) (plan : Plan (StepScript A)) (e : Marks) : Type 0 where
  pub looks : (l : ℕ) → Any (IsWaiter l) plan.asks → Any (ActsOn l) e.0.0
  pub acts : (picks : List ℕ) → Tracks marked (P plan.creates (addresses plan.asks picks)) e (plan.go picks)

-- ---- short lists

-- nothing has no element, and one is an element of its own list
pub Any-nil : {A : Type 0} (P : A → Type 0) → Any P [] → ⊥
Any-nil P h = Contains-nil h.1 (h.0, h.2, h.3)

pub Any-single : {A : Type 0} (P : A → Type 0) (x : A) → P x → Any P (x ∷ [])
Any-single P x h = let c = Contains-push [] x in (c.0, x, c.1, c.2, h)

-- events that are one: none, one, and the same one twice
no_event : HasOneEvent []
no_event e h = absurd (Contains-nil e h)

pub one_event : (e : Event) → HasOneEvent (e ∷ [])
one_event e d h = Contains-one e d h

same_event : (e : Event) → HasOneEvent (e ∷ e ∷ [])
same_event e d h = elim (Contains-push_cases (e ∷ []) e d h) [ inl k ↦ Contains-one e d k | inr same ↦ same ]

-- no waiter is asked for where each type's storage is
pub no_waiter : (l : ℕ) (types : List Ty) → Any (IsWaiter l) (storage_asks types) → ⊥
no_waiter l types h =
    All-contains (λ (a : Ask). IsWaiter l a → ⊥) (storage_asks types) h.1
    (All-map (λ (a : Ask). IsWaiter l a → ⊥) (λ (t : Ty). Address (size_of t) (align_of t)) types (λ k d lt w. w))
    (h.0, h.2, h.3) h.4

-- ---- steps that create nothing

-- where no event is of this kind, none is one of them
none_such : (P : Event → Type 0) (e : Event) → (P e → ⊥) → Any P (e ∷ []) → ⊥
none_such P e other h = other (Any-one P e h)

none_twice : (P : Event → Type 0) (e : Event) → (P e → ⊥) → Any P (e ∷ e ∷ []) → ⊥
none_twice P e other h = other (subst P (sym (same_event e h.1 (h.0, h.2, h.3))) h.4)

-- with no event, and where the thread ends or goes on
pub tells_quiet : (ranges : NewRanges) → Tells CreatesNothing ranges (([], 0), ranges)
tells_quiet ranges = record { allocates = refl; one_event = no_event; creates = (λ h. Any-nil IsSpawn h, λ h. Any-nil IsCreation h); once = omega arith }

pub tells_end : (ranges : NewRanges) → Tells CreatesNothing ranges (([], 1), ranges)
tells_end ranges = record { allocates = refl; one_event = no_event; creates = (λ h. Any-nil IsSpawn h, λ h. Any-nil IsCreation h); once = omega arith }

-- with one, which creates nothing
pub tells_one : (e : Event) → (IsSpawn e → ⊥) → (IsCreation e → ⊥) → Tells CreatesNothing [] ((e ∷ [], 0), [])
tells_one e thread lock = record { allocates = refl; one_event = one_event e; creates = (λ h. none_such IsSpawn e thread h, λ h. none_such IsCreation e lock h); once = omega arith }

-- with the same one twice
pub tells_same : (e : Event) (wakings : ℕ) → wakings ≤ 1 → (IsSpawn e → ⊥) → (IsCreation e → ⊥) → Tells CreatesNothing [] ((e ∷ e ∷ [], wakings), [])
tells_same e wakings once thread lock = record { allocates = refl; one_event = same_event e; creates = (λ h. none_twice IsSpawn e thread h, λ h. none_twice IsCreation e lock h); once = once }
