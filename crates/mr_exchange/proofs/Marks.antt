-- What each query of a step adds to its events and to the ranges of its new allocations.
use Rattle.mr_exchange.proofs.Common.{◌≡◌, ℕ, zero, suc, refl, sym, ap, ◌∙◌, subst, List, [], ◌∷◌, ◌++◌, Bool, true, false, Option, Some, None, Result, Ok, Err, length, if◌then◌else◌, slice_get, IsStrictlyIncreasing, Event, Acquire, CreateLock, Join, Release, Spawn, Went, Broken, goes_on, Tables, any_waits, holding, joiners, Allocate, Free, MemoryReply, Modify, Reading, Write}
use Rattle.mr_base.specs.declared.reason.Reason.{Reason}
use Rattle.mr_exchange.specs.MemMemory.{Memory}
use Rattle.mr_start.specs.SyncTables.{acquired, ended, joined, released}
use Rattle.mr_start.specs.EvalMemoryQueries.{MemoryQuery, memory_answer}
use Rattle.mr_start.specs.EvalTally.{Tally}
use Rattle.mr_exchange.specs.PlanQueries.{Await, Finish, NewLock, OfMemory, Print, Query, Reply, Shared, Start, TryLock, Unlock, Waiting, answer, blocked, ending, fits, giving, going, in_shared, note, tables_of, telling, with_tables, woke}
use Rattle.mr_exchange.specs.PlanNotes.{Notes}
use Rattle.mr_exchange.proofs.PlanMemoryAnswers.{free_went}
use Rattle.mr_exchange.proofs.PlanQuietRuns.{query_unmade}
use Rattle.mr_exchange.proofs.PlanWentLaws.{at_outcome}
use Rattle.mr_exchange.proofs.Rising.{rising_one, rising_joiners}

-- the address and the size of each new allocation, in order
abbrev pub NewRanges : Type 0
NewRanges = List (ℕ × ℕ)

-- the events of a step and how often it wakes threads, and its new allocations
abbrev pub Marks : Type 0
Marks = (List Event × ℕ) × NewRanges

-- nothing noted yet
abbrev pub unmarked : Marks
unmarked = (([], 0), [])

-- what a query to memory adds
abbrev pub with_new : (q : MemoryQuery) → MemoryReply q → NewRanges → NewRanges
with_new (Reading q) x rs = rs
with_new (Write atomic p bytes align) x rs = rs
with_new (Modify p size change) x rs = rs
with_new (Allocate kind size align addr) x rs = rs ++ (addr, size) ∷ []
with_new (Free p kind size align) x rs = rs

-- one event more
abbrev pub with_event : Event → Marks → Marks
with_event event e = ((e.0.0 ++ event ∷ [], e.0.1), e.1)

-- threads are woken once more
abbrev pub with_wake : Marks → Marks
with_wake e = ((e.0.0, suc e.0.1), e.1)

-- a waiter that is named is woken
abbrev pub with_waiter : Option ℕ → Marks → Marks
with_waiter None e = e
with_waiter (Some u) e = with_wake e

-- WHAT A QUERY WITH ITS REPLY ADDS
abbrev pub marked : (q : Query) → Reply q → Marks → Marks
marked (OfMemory q) x e = (e.0, with_new q x e.1)
marked NewLock x e = with_event (CreateLock x) e
marked (TryLock lock) x e = with_event (Acquire lock) e
marked (Waiting lock) x e = with_event (Release lock) e
marked (Unlock lock to) x e = with_waiter to (with_event (Release lock) e)
marked Start x e = with_wake (with_event (Spawn x) e)
marked (Await thread) x e = with_event (Join thread) e
marked Finish x e = with_wake e
marked (Print text) x e = e

-- who is woken, where threads are woken so often: nobody, or those of one time, by rising number
abbrev pub Wakes : ℕ → List ℕ → Type 0
Wakes zero woken = woken ≡ []
Wakes (suc zero) woken = IsStrictlyIncreasing woken
Wakes (suc (suc k)) woken = Unit {0}

-- WHAT IS NOTED IS SO MARKED
pub record HasMarks (w : Shared × Notes) (e : Marks) : Type 0 where
  pub events : w.1.events ≡ e.0.0
  pub ranges : w.1.tally.ranges ≡ e.1
  pub woken : Wakes e.0.1 w.1.woken

-- ---- by query

-- a query to memory
pub is_new : (q : MemoryQuery) (m t : Memory) (n n' : Tally) (x : MemoryReply q) → memory_answer q (m, n) ≡ Went x (t, n') → n'.ranges ≡ with_new q x n.ranges
is_new (Reading q) m t n n' x h = (query_unmade (Reading q) tt m t n n' x h).ranges
is_new (Write atomic p bytes align) m t n n' x h = (query_unmade (Write atomic p bytes align) tt m t n n' x h).ranges
is_new (Modify p size change) m t n n' x h = (query_unmade (Modify p size change) tt m t n n' x h).ranges
is_new (Allocate kind size align addr) m t n n' x h = at_outcome h (λ y w. w.1.ranges ≡ n.ranges ++ (addr, size) ∷ []) refl
is_new (Free p kind size align) m t n n' x h = at_outcome (free_went p kind size align m t n n' x h).goes (λ y w. w.1.ranges ≡ n.ranges) refl

module _ (e : Marks) (w w' : Shared × Notes) (has : HasMarks w e) where
  -- notes with one event more
  event_marks : (event : Event) (v : Shared × Notes) → v.1.events ≡ w.1.events ++ event ∷ [] → v.1.tally.ranges ≡ w.1.tally.ranges → v.1.woken ≡ w.1.woken → HasMarks v (with_event event e)
  event_marks event v es rs ws = record {
    events = es ∙ ap (λ l. l ++ event ∷ []) has.events;
    ranges = rs ∙ has.ranges;
    woken = subst (Wakes e.0.1) (sym ws) has.woken;
  }

  -- a call that may block the thread
  going_marks : (event : Event) (stopped : Bool) (r : Result (Bool × Tables) Reason) (x : Bool) → (if stopped then Broken else going event r w.0 w.1) ≡ Went x w' → HasMarks w' (with_event event e)
  going_marks event true r x h = absurd (cc)
  going_marks event false (Err cause) x h = absurd (cc)
  going_marks event false (Ok p) x h = at_outcome h (λ y v. HasMarks v (with_event event e)) (noted p.0)
    where
      noted : (b : Bool) → HasMarks (with_tables w.0 p.1, if b then note event w.1 else blocked event w.1) (with_event event e)
      noted true = event_marks event _ refl refl refl
      noted false = event_marks event _ refl refl refl

  -- a look at the tables
  telling_marks : (event : Event) (r : Result Bool Reason) (x : Bool) → telling event r w.0 w.1 ≡ Went x w' → HasMarks w' (with_event event e)
  telling_marks event (Err cause) x h = absurd (cc)
  telling_marks event (Ok b) x h = at_outcome h (λ y v. HasMarks v (with_event event e)) (event_marks event _ refl refl refl)

  -- once more some are woken, by rising number
  wakes_more : (k : ℕ) (woken more : List ℕ) → IsStrictlyIncreasing more → Wakes k woken → Wakes (suc k) (woken ++ more)
  wakes_more zero woken more r none = subst (λ (l : List ℕ). IsStrictlyIncreasing (l ++ more)) (sym none) r
  wakes_more (suc zero) woken more r h = tt
  wakes_more (suc (suc k)) woken more r h = tt

  -- a lock given back
  giving_marks : (l : ℕ) (to : Option ℕ) (r : Result Tables Reason) (x : Unit {0}) → giving l to r w.0 w.1 ≡ Went x w' → HasMarks w' (with_waiter to (with_event (Release l) e))
  giving_marks l to (Err cause) x h = absurd (cc)
  giving_marks l to (Ok tables) x h = by_test (fits l to (tables_of w.0)) h
    where
      woken_marks : (o : Option ℕ) → HasMarks (with_tables w.0 tables, woke o (note (Release l) w.1)) (with_waiter o (with_event (Release l) e))
      woken_marks None = event_marks (Release l) _ refl refl refl
      woken_marks (Some u) = record {
        events = ap (λ l'. l' ++ Release l ∷ []) has.events;
        ranges = has.ranges;
        woken = wakes_more e.0.1 w.1.woken (u ∷ []) (rising_one u) has.woken;
      }

      by_test : (b : Bool) → (if b then Went tt (with_tables w.0 tables, woke to (note (Release l) w.1)) else Broken) ≡ Went x w' → HasMarks w' (with_waiter to (with_event (Release l) e))
      by_test true k = at_outcome k (λ y v. HasMarks v (with_waiter to (with_event (Release l) e))) (woken_marks to)
      by_test false k = absurd (cc)

  -- the end of the thread
  ending_marks : (stopped : Bool) (t : ℕ) (x : Unit {0}) → (if stopped then Broken else ending (ended t (tables_of w.0)) w.0 w.1) ≡ Went x w' → HasMarks w' (with_wake e)
  ending_marks true t x h = absurd (cc)
  ending_marks false t x h = at_outcome h (λ y v. HasMarks v (with_wake e)) (record {
    events = has.events;
    ranges = has.ranges;
    woken = wakes_more e.0.1 w.1.woken (joiners t 0 w.0.statuses) (rising_joiners t 0 w.0.statuses) has.woken;
  })

  -- EACH ANSWER adds what its query and reply tell
  pub is_marked : (q : Query) (x : Reply q) → answer q w ≡ Went x w' → HasMarks w' (marked q x e)
  is_marked (OfMemory q) x h =
      let g = goes_on (memory_answer q (w.0.memory, w.1.tally)) (in_shared w) x w' h in
      at_outcome g.rest (λ y v. HasMarks v (marked (OfMemory q) y e))
      (record { events = has.events; ranges = is_new q w.0.memory g.mid.0 w.1.tally g.mid.1 g.value g.first ∙ ap (with_new q g.value) has.ranges; woken = has.woken })
  is_marked NewLock x h = at_outcome h (λ y v. HasMarks v (marked NewLock y e)) (event_marks (CreateLock (length w.0.holders)) _ refl refl refl)
  is_marked (TryLock l) x h = going_marks (Acquire l) w.1.stopped (acquired w.1.tally.thread l (tables_of w.0)) x h
  is_marked (Waiting l) x h = telling_marks (Release l) (holding w.1.tally.thread (slice_get w.0.holders l) (any_waits l (tables_of w.0))) x h
  is_marked (Unlock l to) x h = giving_marks l to (released w.1.tally.thread l to (tables_of w.0)) x h
  is_marked Start x h = at_outcome h (λ y v. HasMarks v (marked Start y e)) (record {
    events = ap (λ l. l ++ Spawn (length w.0.statuses) ∷ []) has.events;
    ranges = has.ranges;
    woken = wakes_more e.0.1 w.1.woken (length w.0.statuses ∷ []) (rising_one (length w.0.statuses)) has.woken;
  })
  is_marked (Await u) x h = going_marks (Join u) w.1.stopped (joined w.1.tally.thread u (tables_of w.0)) x h
  is_marked Finish x h = ending_marks w.1.stopped w.1.tally.thread x h
  is_marked (Print text) x h = at_outcome h (λ y v. HasMarks v e) (record { events = has.events; ranges = has.ranges; woken = has.woken })

-- of any state and marks
pub marking : (q : Query) (w w' : Shared × Notes) (x : Reply q) (e : Marks) → answer q w ≡ Went x w' → HasMarks w e → HasMarks w' (marked q x e)
marking q w w' x e h has = is_marked e w w' has q x h
