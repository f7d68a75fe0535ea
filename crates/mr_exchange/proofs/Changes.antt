-- The ways in which a query changes what is shared and what is noted.
use Rattle.mr_exchange.proofs.Common.{◌≡◌, ℕ, ◌<◌, refl, List, [], ◌∷◌, ◌++◌, length, true, false, Option, Some, None, Bool, slice_get, slice_set, slice_get_within, Acquire, CreateLock, Join, Release, Spawn, Status, Enabled, OnJoin, OnLock, Memory, Done, Undefined, IllFormed, Ask, Went, run, goes_on, any_waits, handed, joiners, over, Tally, Notes, Await, Finish, NewLock, OfMemory, Print, Query, Reply, Shared, Start, StepScript, TryLock, Unlock, Waiting, answer, blocked, in_shared, note, tables_of, woke, at_outcome}
use Rattle.mr_start.specs.EvalMemoryQueries.{MemoryQuery, MemoryReply, memory_answer}
use Rattle.mr_exchange.proofs.CallAnswers.{IsHeld, handing, holds, joining, looking, not_broken, taking, unlocked_free, unlocked_given}
use Rattle.mr_exchange.proofs.Statuses.{after_end, waits_lock}

-- Memory and its tally; a new lock; a lock that is taken, or waited for; a look at a lock and its waiters; a lock that is free again, or given to a waiter;
-- a new thread; a look at a thread that ended, or a wait for its end; the end of the thread; a print.
pub data Change (s : Shared) (n : Notes) : Shared → Notes → Type 0 where
  at_memory : (q : MemoryQuery) (x : MemoryReply q) (m : Memory) (k : Tally) → memory_answer q (s.memory, n.tally) ≡ Went x (m, k)
      → Change s n (record s { memory = m }) (record n { tally = k })
  new_lock : Change s n (record s { holders = s.holders ++ None ∷ [] }) (note (CreateLock (length s.holders)) n)
  takes_lock : (l : ℕ) → l < length s.holders → Change s n (record s { holders = slice_set s.holders l (Some n.tally.thread) }) (note (Acquire l) n)
  awaits_lock : (l : ℕ) → l < length s.holders → Change s n (record s { statuses = slice_set s.statuses n.tally.thread (OnLock l) }) (blocked (Acquire l) n)
  sees_lock : (l : ℕ) → l < length s.holders → Change s n s (note (Release l) n)
  frees_lock : (l : ℕ) → l < length s.holders → Change s n (record s { holders = slice_set s.holders l None }) (note (Release l) n)
  gives_lock : (l u : ℕ) → l < length s.holders → slice_get s.statuses u ≡ Some (OnLock l)
      → Change s n (record s { statuses = slice_set s.statuses u Enabled; holders = slice_set s.holders l (Some u) }) (woke (Some u) (note (Release l) n))
  new_thread : Change s n (record s { statuses = s.statuses ++ Enabled ∷ [] }) (woke (Some (length s.statuses)) (note (Spawn (length s.statuses)) n))
  sees_end : (u : ℕ) → u < length s.statuses → Change s n s (note (Join u) n)
  awaits_end : (u : ℕ) → u < length s.statuses → Change s n (record s { statuses = slice_set s.statuses n.tally.thread (OnJoin u) }) (blocked (Join u) n)
  own_end : Change s n (record s { statuses = after_end n.tally.thread s.statuses }) (record n { ended = true; stopped = true; woken = n.woken ++ joiners n.tally.thread 0 s.statuses })
  prints : (text : List ℕ) → Change s n s (record n { printed = n.printed ++ text ∷ [] })

-- a lock that is held is there, and so is a thread of which it is known whether it ended
held_there : (s : Shared) (l : ℕ) {t : ℕ} → IsHeld t (slice_get s.holders l) → l < length s.holders
held_there s l h = slice_get_within s.holders l (Some h.holder) h.held

over_there : (s : Shared) (u : ℕ) (b : Bool) → over (slice_get s.statuses u) ≡ Some b → u < length s.statuses
over_there s u b h = by_status (slice_get s.statuses u) refl h
  where
    by_status : (o : Option Status) → slice_get s.statuses u ≡ o → over o ≡ Some b → u < length s.statuses
    by_status None e k = absurd (cc)
    by_status (Some x) e k = slice_get_within s.statuses u x e

taken_change : (l : ℕ) (o : Option (Option ℕ)) (s t : Shared) (n n' : Notes) (x : Bool) → slice_get s.holders l ≡ o → taking l o s n ≡ Went x (t, n') → Change s n t n'
taken_change l None s t n n' x e h = absurd (cc)
taken_change l (Some None) s t n n' x e h = at_outcome h (λ y w. Change s n w.0 w.1) (takes_lock l (slice_get_within s.holders l None e))
taken_change l (Some (Some k)) s t n n' x e h = at_outcome h (λ y w. Change s n w.0 w.1) (awaits_lock l (slice_get_within s.holders l (Some k) e))

joined_change : (u : ℕ) (o : Option Bool) (s t : Shared) (n n' : Notes) (x : Bool) → over (slice_get s.statuses u) ≡ o → joining u o s n ≡ Went x (t, n') → Change s n t n'
joined_change u None s t n n' x e h = absurd (cc)
joined_change u (Some true) s t n n' x e h = at_outcome h (λ y w. Change s n w.0 w.1) (sees_end u (over_there s u true e))
joined_change u (Some false) s t n n' x e h = at_outcome h (λ y w. Change s n w.0 w.1) (awaits_end u (over_there s u false e))

handed_change : (l : ℕ) (to : Option ℕ) (s t : Shared) (n n' : Notes) (x : Unit {0}) → answer (Unlock l to) (s, n) ≡ Went x (t, n') → Change s n t n'
handed_change l None s t n n' x h =
    let k = holds n.tally.thread (slice_get s.holders l) (handed l None (tables_of s)) (handing l None s n) x (t, n') (λ r e. cc) h in
    at_outcome (unlocked_free l s n x (t, n') k.1).1 (λ y w. Change s n w.0 w.1) (frees_lock l (held_there s l k.0))
handed_change l (Some u) s t n n' x h =
    let k = holds n.tally.thread (slice_get s.holders l) (handed l (Some u) (tables_of s)) (handing l (Some u) s n) x (t, n') (λ r e. cc) h in
    let g = unlocked_given l s n u x (t, n') k.1 in
    at_outcome g.1 (λ y w. Change s n w.0 w.1) (gives_lock l u (held_there s l k.0) (waits_lock l (slice_get s.statuses u) g.0))

-- EACH QUERY THAT GOES ON CHANGES SO
pub change : (q : Query) (s t : Shared) (n n' : Notes) (x : Reply q) → answer q (s, n) ≡ Went x (t, n') → Change s n t n'
change (OfMemory q) s t n n' x h =
    let g = goes_on (memory_answer q (s.memory, n.tally)) (in_shared (s, n)) x (t, n') h in
    at_outcome g.rest (λ y w. Change s n w.0 w.1) (at_memory q g.value g.mid.0 g.mid.1 g.first)
change NewLock s t n n' x h = at_outcome h (λ y w. Change s n w.0 w.1) new_lock
change (TryLock l) s t n n' x h =
    taken_change l (slice_get s.holders l) s t n n' x refl (not_broken n.stopped (taking l (slice_get s.holders l) s n) x (t, n') h).1
change (Waiting l) s t n n' x h =
    let k = holds n.tally.thread (slice_get s.holders l) (any_waits l (tables_of s)) (looking l s n) x (t, n') (λ r e. cc) h in
    at_outcome k.1 (λ y w. Change s n w.0 w.1) (sees_lock l (held_there s l k.0))
change (Unlock l to) s t n n' x h = handed_change l to s t n n' x h
change Start s t n n' x h = at_outcome h (λ y w. Change s n w.0 w.1) new_thread
change (Await u) s t n n' x h =
    joined_change u (over (slice_get s.statuses u)) s t n n' x refl (not_broken n.stopped (joining u (over (slice_get s.statuses u)) s n) x (t, n') h).1
change Finish s t n n' x h = at_outcome (not_broken n.stopped _ x (t, n') h).1 (λ y w. Change s n w.0 w.1) own_end
change (Print text) s t n n' x h = at_outcome h (λ y w. Change s n w.0 w.1) (prints text)

-- ---- what holds of all that a script comes to

module _ (Holds : Shared → Notes → Type 0) (kept : (s t : Shared) (n n' : Notes) → Change s n t n' → Holds s n → Holds t n') where
  -- WHAT EACH CHANGE KEEPS, EACH SCRIPT KEEPS
  pub run_keeps : {A : Type 0} (script : StepScript A) (s t : Shared) (n n' : Notes) (x : A) → Holds s n → run answer script (s, n) ≡ Went x (t, n') → Holds t n'
  run_keeps (Done a) s t n n' x i h = at_outcome h (λ y w. Holds w.0 w.1) i
  run_keeps (Undefined r) s t n n' x i h = absurd (cc)
  run_keeps IllFormed s t n n' x i h = absurd (cc)
  run_keeps (Ask q k) s t n n' x i h =
      let g = goes_on (answer q (s, n)) _ x (t, n') h in
      run_keeps (k g.value) g.mid.0 t g.mid.1 n' x (kept s g.mid.0 n g.mid.1 (change q s g.mid.0 n g.mid.1 g.value g.first) i) g.rest
