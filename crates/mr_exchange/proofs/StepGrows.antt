-- What is noted only grows, a thread that goes on stays enabled, and two states with the same at each spot are one.
use Rattle.mr_exchange.proofs.Common.{◌≡◌, ℕ, refl, sym, ap, ◌∙◌, subst, List, [], ◌∷◌, ◌++◌, length, inl, inr, Some, None, true, arith, slice_get, slice_set, cases_eq, slice_get_past, Event, Acquire, CreateLock, Join, Release, Spawn, Status, Enabled, Notes, Query, Reply, Shared, answer, longer_contains, tally_grows, ActsOn, At, EndsThread, Holder, InMemory, IsCreation, IsGoing, IsSpawn, LockCount, Over, Reads, Spot, ThreadCount, WaitsJoin, WaitsLock, Writes, at_spot, set_there}
use Rattle.mr_base.proofs.ScriptSwaps.{IsGrowing, IsKept}
use Rattle.mr_start.proofs.PlanListPlaces.{same_by_places}
use Rattle.mr_start.proofs.PlanMemoryLocal.{same_memory}
use Rattle.mr_start.proofs.PlanTallyGrows.{Longer, TallyGrows, grows_same, longer_any, longer_same, reads_grow, writes_grow}
use Rattle.mr_exchange.proofs.Changes.{Change, at_memory, awaits_end, awaits_lock, change, frees_lock, gives_lock, new_lock, new_thread, own_end, prints, sees_end, sees_lock, takes_lock}
use Rattle.mr_exchange.proofs.PushedLists.{push_there, set_same}
use Rattle.mr_exchange.proofs.Statuses.{same_status}

-- ---- notes

-- what is noted has grown
pub record NotesGrow (n n' : Notes) : Type 0 where
  pub tally : TallyGrows n.tally n'.tally
  pub events : Longer n.events n'.events
  pub ended : n.ended ≡ true → n'.ended ≡ true

-- one event more
grow_event : (n n' : Notes) (e : Event) → n'.tally ≡ n.tally → n'.events ≡ n.events ++ e ∷ [] → n'.ended ≡ n.ended → NotesGrow n n'
grow_event n n' e t es d = record {
  tally = grow_tally t;
  events = (e ∷ [], es);
  ended = λ h. d ∙ h;
}
  where
    grow_tally : n'.tally ≡ n.tally → TallyGrows n.tally n'.tally
    grow_tally i = subst (TallyGrows n.tally) (sym i) (grows_same n.tally)

-- each change notes more
pub notes_grow : (s t : Shared) (n n' : Notes) → Change s n t n' → NotesGrow n n'
notes_grow s t n n' (at_memory q x m k e) = record {
  tally = tally_grows q s.memory m n.tally k x e;
  events = longer_same n.events;
  ended = λ h. h;
}
notes_grow s t n n' new_lock = grow_event n _ (CreateLock (length s.holders)) refl refl refl
notes_grow s t n n' (takes_lock l there) = grow_event n _ (Acquire l) refl refl refl
notes_grow s t n n' (awaits_lock l there) = grow_event n _ (Acquire l) refl refl refl
notes_grow s t n n' (sees_lock l there) = grow_event n _ (Release l) refl refl refl
notes_grow s t n n' (frees_lock l there) = grow_event n _ (Release l) refl refl refl
notes_grow s t n n' (gives_lock l u there w) = grow_event n _ (Release l) refl refl refl
notes_grow s t n n' new_thread = grow_event n _ (Spawn (length s.statuses)) refl refl refl
notes_grow s t n n' (sees_end u there) = grow_event n _ (Join u) refl refl refl
notes_grow s t n n' (awaits_end u there) = grow_event n _ (Join u) refl refl refl
notes_grow s t n n' own_end = record { tally = grows_same n.tally; events = longer_same n.events; ended = λ h. refl }
notes_grow s t n n' (prints text) = record { tally = grows_same n.tally; events = longer_same n.events; ended = λ h. h }

module _ (n n' : Notes) (g : NotesGrow n n') where
  -- so more spots are read, and more are written
  ends_still : (t : ℕ) → EndsThread n t → EndsThread n' t
  ends_still t h = (g.ended h.0, g.tally.thread ∙ h.1)

  spots_read : (o : Spot) → Reads n o → Reads n' o
  spots_read (InMemory o) h = reads_grow n.tally n'.tally g.tally o h
  spots_read (Holder l) h = longer_any (ActsOn l) n.events n'.events g.events h
  spots_read LockCount h = longer_any IsCreation n.events n'.events g.events h
  spots_read ThreadCount h = longer_any IsSpawn n.events n'.events g.events h
  spots_read (Over t) h = longer_contains n.events n'.events (Join t) g.events h
  spots_read (WaitsLock t l) h = longer_any (ActsOn l) n.events n'.events g.events h
  spots_read (WaitsJoin t u) h = ends_still u h

  spots_written : (o : Spot) → Writes n o → Writes n' o
  spots_written (InMemory o) h = writes_grow n.tally n'.tally g.tally o h
  spots_written (Holder l) h = longer_any (ActsOn l) n.events n'.events g.events h
  spots_written LockCount h = longer_any IsCreation n.events n'.events g.events h
  spots_written ThreadCount h = longer_any IsSpawn n.events n'.events g.events h
  spots_written (Over t) (inl h) = inl (longer_contains n.events n'.events (Spawn t) g.events h)
  spots_written (Over t) (inr h) = inr (ends_still t h)
  spots_written (WaitsLock t l) h = longer_any (ActsOn l) n.events n'.events g.events h
  spots_written (WaitsJoin t u) (inl h) = inl (longer_contains n.events n'.events (Join u) g.events h.0, g.tally.thread ∙ h.1)
  spots_written (WaitsJoin t u) (inr h) = inr (ends_still u h)

-- WHAT EACH QUERY NOTES ONLY GROWS
pub growing : IsGrowing Query Reply Shared Notes answer Spot At at_spot Reads Writes IsGoing
growing q s t n n' x h =
    let g = notes_grow s t n n' (change q s t n n' x h) in
    record { reads_grow = spots_read n n' g; writes_grow = spots_written n n' g }

-- ---- the thread of the step

-- an enabled thread is enabled still, where another one is
still_enabled : (xs : List Status) (u k : ℕ) → slice_get xs k ≡ Some Enabled → slice_get (slice_set xs u Enabled) k ≡ Some Enabled
still_enabled xs u k h =
    elim (cases_eq k u) [
      | inl e ↦ ap (slice_get (slice_set xs u Enabled)) e ∙ set_same xs u Enabled Enabled (ap (slice_get xs) (sym e) ∙ h)
      | inr d ↦ set_there xs u k Enabled d ∙ h
    ]

pushed_enabled : (xs : List Status) (k : ℕ) → slice_get xs k ≡ Some Enabled → slice_get (xs ++ Enabled ∷ []) k ≡ Some Enabled
pushed_enabled xs k h =
    elim (cases_eq k (length xs)) [
      | inl e ↦ let past : slice_get xs k ≡ None = slice_get_past xs k (omega arith) in absurd (cc)
      | inr d ↦ push_there xs Enabled k d ∙ h
    ]

-- each change keeps it so
still_going : (s t : Shared) (n n' : Notes) → Change s n t n' → IsGoing s n → IsGoing t n'
still_going s t n n' (at_memory q x m k e) i = λ h. ap (slice_get s.statuses) (tally_grows q s.memory m n.tally k x e).thread ∙ i h
still_going s t n n' new_lock i = i
still_going s t n n' (takes_lock l there) i = i
still_going s t n n' (awaits_lock l there) i = λ h. absurd (cc)
still_going s t n n' (sees_lock l there) i = i
still_going s t n n' (frees_lock l there) i = i
still_going s t n n' (gives_lock l u there w) i = λ h. still_enabled s.statuses u n.tally.thread (i h)
still_going s t n n' new_thread i = λ h. pushed_enabled s.statuses n.tally.thread (i h)
still_going s t n n' (sees_end u there) i = i
still_going s t n n' (awaits_end u there) i = λ h. absurd (cc)
still_going s t n n' own_end i = λ h. absurd (cc)
still_going s t n n' (prints text) i = i

-- A THREAD THAT GOES ON STAYS ENABLED
pub kept : IsKept Query Reply Shared Notes answer Spot At at_spot Reads Writes IsGoing
kept q s t n n' x i h = still_going s t n n' (change q s t n n' x h) i

-- ---- equal states

-- TWO STATES WITH THE SAME AT EACH SPOT ARE ONE
pub same_shared : (s t : Shared) → ((o : Spot) → at_spot s o ≡ at_spot t o) → s ≡ t
same_shared s t h =
    let memory : s.memory ≡ t.memory = same_memory s.memory t.memory (λ o. h (InMemory o)) in
    let statuses : s.statuses ≡ t.statuses =
    same_by_places s.statuses t.statuses (λ k. same_status (slice_get s.statuses k) (slice_get t.statuses k) (h (Over k)) (λ l. h (WaitsLock k l)) (λ u. h (WaitsJoin k u))) in
    let holders : s.holders ≡ t.holders = same_by_places s.holders t.holders (λ k. h (Holder k)) in
    λ i. record { memory = memory i; statuses = statuses i; holders = holders i }
