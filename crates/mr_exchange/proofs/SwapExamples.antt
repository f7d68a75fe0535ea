-- A small language that tells what it does, and two of its steps, exchanged: a thread makes a lock, and another one prints.
use Rattle.mr_exchange.proofs.Common.{◌≡◌, ℕ, zero, suc, refl, sym, ◌∙◌, subst, List, [], ◌∷◌, length, Option, Some, None, arith, Any, some_conflict, AllocId, Event, CreateLock, Enabled, depends, wakes, Allocation, id_cmp, Ask, Done, Went, run, Aborts, Completed, CreatesLock, CreatesNothing, Exits, Flow, Goes, Language, State, bare, thread_of, Notes, accesses_in, start_notes, NewLock, Print, Shared, StepScript, answer, note, Contains-nil, Contains-one, at_outcome, IsCreation, IsSpawn, AreExchanged, IsSane, IsTelling, IsWaiter, StepTold}
use Rattle.mr_start.specs.PlanMachine.{Plan}
use Rattle.std.specs.FinMap as fin
use Rattle.mr_exchange.proofs.ElementTests.{any_from, here}
use Rattle.mr_exchange.proofs.Rising.{rising_none}
use Rattle.mr_exchange.proofs.SwapLaw.{swap_law}

-- a thread at 0 makes a lock and goes to 1; one above prints the number below its own, and stays
abbrev saying : ℕ → StepScript (Plan (StepScript (Flow ℕ)))
saying zero = Done (record { creates = CreatesLock; asks = []; go = λ picks. Ask NewLock (λ lock. Done (Goes 1 None)) })
saying (suc k) = Done (record { creates = CreatesNothing; asks = []; go = λ picks. Ask (Print (k ∷ [])) (λ r. Done (Goes (suc k) None)) })

abbrev says : Language ℕ
says = record { next = saying; edition = 2 }

-- ---- it tells

asks_none : (own : ℕ) (s s1 : Shared) (t count : ℕ) (n : Notes) (plan : Plan (StepScript (Flow ℕ))) → run answer (saying own) (s, start_notes t count) ≡ Went plan (s1, n) → plan.asks ≡ []
asks_none zero s s1 t count n plan h = at_outcome h (λ p w. p.asks ≡ []) refl
asks_none (suc k) s s1 t count n plan h = at_outcome h (λ p w. p.asks ≡ []) refl

no_waiter : (l : ℕ) → Any (IsWaiter l) [] → ⊥
no_waiter l h = Contains-nil h.1 (h.0, h.2, h.3)

no_event : (P : Event → Type 0) → Any P [] → ⊥
no_event P h = Contains-nil h.1 (h.0, h.2, h.3)

-- the thread that is handed out
abbrev handed_out : Flow ℕ → Option ℕ
handed_out (Goes own started) = started
handed_out Exits = None
handed_out Aborts = None

step_told : (own : ℕ) (s s1 s2 : Shared) (t count : ℕ) (n1 n : Notes) (plan : Plan (StepScript (Flow ℕ))) (picks : List ℕ) (after : ℕ) (started : Option ℕ)
    → run answer (saying own) (s, start_notes t count) ≡ Went plan (s1, n1) → run answer (plan.go picks) (s1, n1) ≡ Went (Goes after started) (s2, n) → StepTold plan picks started n
step_told zero s s1 s2 t count n1 n plan picks after started h k =
    at_outcome h (λ p w. run answer (p.go picks) w ≡ Went (Goes after started) (s2, n) → StepTold p picks started n)
    (λ r. at_outcome r (λ flow w. StepTold lock_plan picks (handed_out flow) w.1) (record {
      allocates = refl;
      one_event = λ e c. Contains-one (CreateLock (length s.holders)) e c;
      creates = any_from IsCreation (CreateLock (length s.holders) ∷ []) (CreateLock (length s.holders)) (here (CreateLock (length s.holders)) []) tt;
      starts = tt;
      rises = rising_none;
    }))
    k
  where
    lock_plan : Plan (StepScript (Flow ℕ))
    lock_plan = record { creates = CreatesLock; asks = []; go = λ picks. Ask NewLock (λ lock. Done (Goes 1 None)) }
step_told (suc m) s s1 s2 t count n1 n plan picks after started h k =
    at_outcome h (λ p w. run answer (p.go picks) w ≡ Went (Goes after started) (s2, n) → StepTold p picks started n)
    (λ r. at_outcome r (λ flow w. StepTold print_plan picks (handed_out flow) w.1) (record {
      allocates = refl;
      one_event = λ e c. absurd (Contains-nil e c);
      creates = (λ h. no_event IsSpawn h, λ h. no_event IsCreation h);
      starts = tt;
      rises = rising_none;
    }))
    k
  where
    print_plan : Plan (StepScript (Flow ℕ))
    print_plan = record { creates = CreatesNothing; asks = []; go = λ picks. Ask (Print (m ∷ [])) (λ r. Done (Goes (suc m) None)) }

tells : IsTelling says
tells = record {
  looked = λ own s s1 t count n plan h l w. absurd (no_waiter l (subst (Any (IsWaiter l)) (asks_none own s s1 t count n plan h) w));
  told = step_told;
}

-- ---- two steps

abbrev shared_at : List (Option ℕ) → Shared
shared_at holders = record { memory = fin.empty; statuses = Enabled ∷ Enabled ∷ []; holders = holders }

-- thread 0 is to make a lock, thread 1 to print
abbrev first_state : State ℕ
first_state = record { shared = shared_at []; threads = thread_of 0 0 ∷ thread_of 8 0 ∷ [] }

-- behind the lock, and behind the print too
abbrev last_state : State ℕ
last_state = record { shared = shared_at (None ∷ []); threads = thread_of 1 0 ∷ thread_of 8 0 ∷ [] }

abbrev lock_notes : Notes
lock_notes = note (CreateLock 0) (start_notes 0 0)

abbrev print_notes : Notes
print_notes = record (start_notes 1 0) { printed = (7 ∷ []) ∷ [] }

makes_lock : bare says first_state 0 [] ≡ Completed lock_notes last_state
makes_lock = refl

prints : bare says last_state 1 [] ≡ Completed print_notes last_state
prints = refl

no_allocation : (id : AllocId) (a : Allocation) → fin.get {R = id_cmp} fin.empty id ≡ Some a → ⊥
no_allocation id a h = let none : Some a ≡ None = sym h ∙ fin.get-empty id_cmp id in cc

sane : IsSane first_state
sane = record {
  counted = λ id a h th e. absurd (no_allocation id a h);
  has_thread = λ id a h. absurd (no_allocation id a h);
  numbered = refl;
}

-- so thread 1 may print first
exchanged : AreExchanged says first_state last_state last_state 0 1 [] [] lock_notes print_notes
unfolding wakes depends some_conflict accesses_in
exchanged = swap_law says tells first_state last_state last_state 0 1 [] [] lock_notes print_notes sane (λ e. omega arith) refl makes_lock refl prints refl refl
