-- Each query is local: where the spots that it reads are the same, it answers the same and changes the same.
use Rattle.mr_exchange.proofs.Common.{◌≡◌, ◌≢◌, ℕ, ◌+◌, refl, sym, ap, ◌∙◌, subst, List, [], ◌∷◌, ◌++◌, length, inl, inr, Option, Some, None, Ok, Bool, true, false, Any, slice_get, slice_set, option_map, cases_eq, length-map, length-set, length_push, Acquire, CreateLock, Join, Release, Spawn, Status, Enabled, Ended, OnJoin, OnLock, Memory, Went, on, goes_on, any_waiting, any_waits, handed, joiners, on_join, on_lock, over, wake, Tally, Notes, Await, Finish, NewLock, OfMemory, Print, Query, Reply, Shared, Start, TryLock, Unlock, Waiting, answer, blocked, in_shared, note, tables_of, woke, at_outcome, ActsOn, At, Holder, InMemory, IsCreation, IsGoing, IsSpawn, LockCount, Over, Reads, Spot, ThreadCount, WaitsJoin, WaitsLock, Writes, at_spot}
use Rattle.std.proofs.lemmas.List.Quantifiers.{Any-push}
use Rattle.mr_base.proofs.ScriptSwaps.{IsLocal}
use Rattle.mr_start.specs.EvalMemoryQueries.{MemoryQuery, memory_answer}
use Rattle.mr_start.specs.PlanPlaces.{MemoryPlace}
use Rattle.mr_start.proofs.PlanMemoryLocal.{memory_local}
use Rattle.mr_start.proofs.PlanMemoryMoves.{IsMove, MovesAt}
use Rattle.mr_exchange.proofs.CallAnswers.{IsHeld, handing, held_passes, holds, joining, looking, not_broken, taking, unbroken, unlocked_free, unlocked_free_too, unlocked_given, unlocked_given_too}
use Rattle.mr_exchange.proofs.ElementTests.{last_is}
use Rattle.mr_exchange.proofs.PushedLists.{push_here, push_there}
use Rattle.mr_exchange.proofs.Statuses.{after_end, behind_end, ended_itself, join_status, kept_join, lock_status, one_more, one_place, one_status, same_joiners, same_waiting, waits_lock, woken_join, woken_lock, woken_over}

-- two states have the same at each spot that is read
abbrev pub Agrees : Shared → Shared → Notes → Type 0
Agrees s s' n = (o : Spot) → Reads n o → at_spot s o ≡ at_spot s' o

-- two states move so at a spot
abbrev pub SpotMoves : Shared → Shared → Shared → Shared → Notes → Spot → Type 0
SpotMoves s t s' t' n o = IsMove (at_spot s o) (at_spot t o) (at_spot s' o) (at_spot t' o) (Writes n o)

-- from a state that agrees, the same is answered, and it moves alike
record FollowsQuery (q : Query) (s s' t : Shared) (n n' : Notes) (x : Reply q) : Type 0 where
  after : Shared
  goes : answer q (s', n) ≡ Went x (after, n')
  moves : (o : Spot) → SpotMoves s t s' after n' o

-- it is so of this query
abbrev IsLocalQuery : Query → Type 0
IsLocalQuery q = (s s' t : Shared) (n n' : Notes) (x : Reply q) → IsGoing s n → IsGoing s' n → answer q (s, n) ≡ Went x (t, n') → Agrees s s' n' → FollowsQuery q s s' t n n' x

-- ---- memory

of_memory : (q : MemoryQuery) → IsLocalQuery (OfMemory q)
of_memory q s s' t n n' x i i' h agree =
    let g = goes_on (memory_answer q (s.memory, n.tally)) (in_shared (s, n)) x (t, n') h in
    at_outcome g.rest (λ y w. Agrees s s' w.1 → FollowsQuery (OfMemory q) s s' w.0 n w.1 y)
    (λ agrees.
    let m = memory_local (λ m k. Unit {0}) q s.memory s'.memory g.mid.0 n.tally g.mid.1 g.value tt tt g.first (λ o r. agrees (InMemory o) r) in
    record {
      after = record s' { memory = m.after };
      goes = ap (λ w. on w (in_shared (s', n))) m.goes;
      moves = moves_of g.mid.0 m.after g.mid.1 m.moves;
    })
    agree
  where
    moves_of : (m m' : Memory) (k : Tally) → ((o : MemoryPlace) → MovesAt s.memory m s'.memory m' k o) → (o : Spot)
        → SpotMoves s (record s { memory = m }) s' (record s' { memory = m' }) (record n { tally = k }) o
    moves_of m m' k h (InMemory o) = h o
    moves_of m m' k h _ = inl (refl, refl)

-- ---- a new lock

makes_lock : IsLocalQuery NewLock
makes_lock s s' t n n' x i i' h agree =
    at_outcome h (λ y w. Agrees s s' w.1 → FollowsQuery NewLock s s' w.0 n w.1 y)
    (λ agrees.
    let e : length s.holders ≡ length s'.holders = agrees LockCount (Any-push IsCreation n.events (CreateLock (length s.holders)) tt) in
    record {
      after = record s' { holders = s'.holders ++ None ∷ [] };
      goes = ap (λ k. Went k (record s' { holders = s'.holders ++ None ∷ [] }, note (CreateLock k) n)) (sym e);
      moves = moves_of e;
    })
    agree
  where
    moves_of : length s.holders ≡ length s'.holders → (o : Spot)
        → SpotMoves s (record s { holders = s.holders ++ None ∷ [] }) s' (record s' { holders = s'.holders ++ None ∷ [] }) (note (CreateLock (length s.holders)) n) o
    moves_of e (Holder l) =
        elim (cases_eq l (length s.holders)) [
          | inl d ↦ inr (
            ap (slice_get (s.holders ++ None ∷ [])) d ∙ push_here s.holders None
                ∙ sym (ap (slice_get (s'.holders ++ None ∷ [])) (d ∙ e) ∙ push_here s'.holders None),
            Any-push (ActsOn l) n.events (CreateLock (length s.holders)) (sym d),
          )
          | inr d ↦ inl (push_there s.holders None l d, push_there s'.holders None l (λ f. d (f ∙ sym e)))
        ]
    moves_of e LockCount =
        inr (length_push s.holders None ∙ ap (λ k. k + 1) e ∙ sym (length_push s'.holders None), Any-push IsCreation n.events (CreateLock (length s.holders)) tt)
    moves_of e _ = inl (refl, refl)

-- ---- a lock is taken, or waited for

module _ (l : ℕ) (s s' t : Shared) (n n' : Notes) (x : Bool) (i : IsGoing s n) (i' : IsGoing s' n) (going : n.stopped ≡ false) (agree : Agrees s s' n') where
  takes : (o : Option (Option ℕ)) → slice_get s.holders l ≡ o → taking l o s n ≡ Went x (t, n') → FollowsQuery (TryLock l) s s' t n n' x
  takes None e h = absurd (cc)
  takes (Some None) e h =
      at_outcome h (λ y w. Agrees s s' w.1 → FollowsQuery (TryLock l) s s' w.0 n w.1 y)
      (λ agrees.
      let same : slice_get s'.holders l ≡ Some None = sym (agrees (Holder l) (Any-push (ActsOn l) n.events (Acquire l) refl)) ∙ e in
      record {
        after = record s' { holders = slice_set s'.holders l (Some n.tally.thread) };
        goes = unbroken n.stopped (taking l (slice_get s'.holders l) s' n) going ∙ ap (λ o. taking l o s' n) same;
        moves = moves_of same;
      })
      agree
    where
      moves_of : slice_get s'.holders l ≡ Some None → (o : Spot)
          → SpotMoves s (record s { holders = slice_set s.holders l (Some n.tally.thread) }) s' (record s' { holders = slice_set s'.holders l (Some n.tally.thread) }) (note (Acquire l) n) o
      moves_of same (Holder k) = one_place (Writes (note (Acquire l) n) (Holder k)) s.holders s'.holders l None None (Some n.tally.thread) k e same (λ d. Any-push (ActsOn k) n.events (Acquire l) (sym d))
      moves_of same LockCount = inl (length-set s.holders l (Some n.tally.thread), length-set s'.holders l (Some n.tally.thread))
      moves_of same _ = inl (refl, refl)
  takes (Some (Some holder)) e h =
      at_outcome h (λ y w. Agrees s s' w.1 → FollowsQuery (TryLock l) s s' w.0 n w.1 y)
      (λ agrees.
      let same : slice_get s'.holders l ≡ Some (Some holder) = sym (agrees (Holder l) (Any-push (ActsOn l) n.events (Acquire l) refl)) ∙ e in
      record {
        after = record s' { statuses = slice_set s'.statuses n.tally.thread (OnLock l) };
        goes = unbroken n.stopped (taking l (slice_get s'.holders l) s' n) going ∙ ap (λ o. taking l o s' n) same;
        moves = moves_of;
      })
      agree
    where
      moves_of : (o : Spot)
          → SpotMoves s (record s { statuses = slice_set s.statuses n.tally.thread (OnLock l) }) s' (record s' { statuses = slice_set s'.statuses n.tally.thread (OnLock l) }) (blocked (Acquire l) n) o
      moves_of (Over k) = one_status over (Writes (blocked (Acquire l) n) (Over k)) s.statuses s'.statuses n.tally.thread Enabled (OnLock l) k (i going) (i' going) (λ d. inl refl)
      moves_of (WaitsLock k m) =
          one_status (on_lock m) (Writes (blocked (Acquire l) n) (WaitsLock k m)) s.statuses s'.statuses n.tally.thread Enabled (OnLock l) k (i going) (i' going)
          (λ d. lock_status m l (Writes (blocked (Acquire l) n) (WaitsLock k m)) (λ c. Any-push (ActsOn m) n.events (Acquire l) (sym c)))
      moves_of (WaitsJoin k u) = one_status (on_join u) (Writes (blocked (Acquire l) n) (WaitsJoin k u)) s.statuses s'.statuses n.tally.thread Enabled (OnLock l) k (i going) (i' going) (λ d. inl refl)
      moves_of ThreadCount = inl (length-set s.statuses n.tally.thread (OnLock l), length-set s'.statuses n.tally.thread (OnLock l))
      moves_of _ = inl (refl, refl)

tries_lock : (l : ℕ) → IsLocalQuery (TryLock l)
tries_lock l s s' t n n' x i i' h agree =
    let b = not_broken n.stopped (taking l (slice_get s.holders l) s n) x (t, n') h in
    takes l s s' t n n' x i i' b.0 agree (slice_get s.holders l) refl b.1

-- ---- an end is seen, or waited for

module _ (l : ℕ) (s s' t : Shared) (n n' : Notes) (x : Bool) (i : IsGoing s n) (i' : IsGoing s' n) (going : n.stopped ≡ false) (agree : Agrees s s' n') where
  joins : (o : Option Bool) → over (slice_get s.statuses l) ≡ o → joining l o s n ≡ Went x (t, n') → FollowsQuery (Await l) s s' t n n' x
  joins None e h = absurd (cc)
  joins (Some true) e h =
      at_outcome h (λ y w. Agrees s s' w.1 → FollowsQuery (Await l) s s' w.0 n w.1 y)
      (λ agrees.
      let same : over (slice_get s'.statuses l) ≡ Some true = sym (agrees (Over l) (last_is n.events (Join l) (Join l) refl)) ∙ e in
      record {
        after = s';
        goes = unbroken n.stopped (joining l (over (slice_get s'.statuses l)) s' n) going ∙ ap (λ o. joining l o s' n) same;
        moves = λ o. inl (refl, refl);
      })
      agree
  joins (Some false) e h =
      at_outcome h (λ y w. Agrees s s' w.1 → FollowsQuery (Await l) s s' w.0 n w.1 y)
      (λ agrees.
      let same : over (slice_get s'.statuses l) ≡ Some false = sym (agrees (Over l) (last_is n.events (Join l) (Join l) refl)) ∙ e in
      record {
        after = record s' { statuses = slice_set s'.statuses n.tally.thread (OnJoin l) };
        goes = unbroken n.stopped (joining l (over (slice_get s'.statuses l)) s' n) going ∙ ap (λ o. joining l o s' n) same;
        moves = moves_of;
      })
      agree
    where
      moves_of : (o : Spot)
          → SpotMoves s (record s { statuses = slice_set s.statuses n.tally.thread (OnJoin l) }) s' (record s' { statuses = slice_set s'.statuses n.tally.thread (OnJoin l) }) (blocked (Join l) n) o
      moves_of (Over k) = one_status over (Writes (blocked (Join l) n) (Over k)) s.statuses s'.statuses n.tally.thread Enabled (OnJoin l) k (i going) (i' going) (λ d. inl refl)
      moves_of (WaitsLock k m) = one_status (on_lock m) (Writes (blocked (Join l) n) (WaitsLock k m)) s.statuses s'.statuses n.tally.thread Enabled (OnJoin l) k (i going) (i' going) (λ d. inl refl)
      moves_of (WaitsJoin k u) =
          one_status (on_join u) (Writes (blocked (Join l) n) (WaitsJoin k u)) s.statuses s'.statuses n.tally.thread Enabled (OnJoin l) k (i going) (i' going)
          (λ d. join_status u l (Writes (blocked (Join l) n) (WaitsJoin k u)) (λ c. inl (last_is n.events (Join l) (Join u) (ap Join (sym c)), sym d)))
      moves_of ThreadCount = inl (length-set s.statuses n.tally.thread (OnJoin l), length-set s'.statuses n.tally.thread (OnJoin l))
      moves_of _ = inl (refl, refl)

awaits : (l : ℕ) → IsLocalQuery (Await l)
awaits l s s' t n n' x i i' h agree =
    let b = not_broken n.stopped (joining l (over (slice_get s.statuses l)) s n) x (t, n') h in
    joins l s s' t n n' x i i' b.0 agree (over (slice_get s.statuses l)) refl b.1

-- ---- a look at a lock and its waiters

looks : (l : ℕ) → IsLocalQuery (Waiting l)
looks l s s' t n n' x i i' h agree =
    let k = holds n.tally.thread (slice_get s.holders l) (any_waits l (tables_of s)) (looking l s n) x (t, n') (λ r e. cc) h in
    at_outcome k.1 (λ y w. Agrees s s' w.1 → FollowsQuery (Waiting l) s s' w.0 n w.1 y)
    (λ agrees.
    let acts : Any (ActsOn l) (n.events ++ Release l ∷ []) = Any-push (ActsOn l) n.events (Release l) refl in
    let held : IsHeld n.tally.thread (slice_get s'.holders l) = subst (IsHeld n.tally.thread) (agrees (Holder l) acts) k.0 in
    let any : any_waiting l s'.statuses ≡ any_waiting l s.statuses = same_waiting l s'.statuses s.statuses (λ j. sym (agrees (WaitsLock j l) acts)) in
    record {
      after = s';
      goes = ap (looking l s' n) (held_passes n.tally.thread (slice_get s'.holders l) (any_waits l (tables_of s')) held) ∙ ap (λ b. Went b (s', note (Release l) n)) any;
      moves = λ o. inl (refl, refl);
    })
    agree

-- ---- a lock is given back

module _ (l : ℕ) (s s' t : Shared) (n n' : Notes) (x : Unit {0}) (agree : Agrees s s' n') (held : IsHeld n.tally.thread (slice_get s.holders l)) where
  unlocks : (to : Option ℕ) → handing l to s n (Ok (handed l to (tables_of s))) ≡ Went x (t, n') → FollowsQuery (Unlock l to) s s' t n n' x
  unlocks None h =
      let f = unlocked_free l s n x (t, n') h in
      at_outcome f.1 (λ y w. Agrees s s' w.1 → FollowsQuery (Unlock l None) s s' w.0 n w.1 y)
      (λ agrees.
      let acts : Any (ActsOn l) (n.events ++ Release l ∷ []) = Any-push (ActsOn l) n.events (Release l) refl in
      let held' : IsHeld n.tally.thread (slice_get s'.holders l) = subst (IsHeld n.tally.thread) (agrees (Holder l) acts) held in
      let none : any_waiting l s'.statuses ≡ false = same_waiting l s'.statuses s.statuses (λ j. sym (agrees (WaitsLock j l) acts)) ∙ f.0 in
      record {
        after = record s' { holders = slice_set s'.holders l None };
        goes = ap (handing l None s' n) (held_passes n.tally.thread (slice_get s'.holders l) (handed l None (tables_of s')) held') ∙ unlocked_free_too l s' n none;
        moves = moves_of held';
      })
      agree
    where
      moves_of : IsHeld n.tally.thread (slice_get s'.holders l) → (o : Spot)
          → SpotMoves s (record s { holders = slice_set s.holders l None }) s' (record s' { holders = slice_set s'.holders l None }) (note (Release l) n) o
      moves_of held' (Holder k) =
          one_place (Writes (note (Release l) n) (Holder k)) s.holders s'.holders l (Some held.holder) (Some held'.holder) None k held.held held'.held
          (λ d. Any-push (ActsOn k) n.events (Release l) (sym d))
      moves_of held' LockCount = inl (length-set s.holders l None, length-set s'.holders l None)
      moves_of held' _ = inl (refl, refl)
  unlocks (Some u) h =
      let f = unlocked_given l s n u x (t, n') h in
      at_outcome f.1 (λ y w. Agrees s s' w.1 → FollowsQuery (Unlock l (Some u)) s s' w.0 n w.1 y)
      (λ agrees.
      let acts : Any (ActsOn l) (n.events ++ Release l ∷ []) = Any-push (ActsOn l) n.events (Release l) refl in
      let held' : IsHeld n.tally.thread (slice_get s'.holders l) = subst (IsHeld n.tally.thread) (agrees (Holder l) acts) held in
      let waits : on_lock l (slice_get s'.statuses u) ≡ true = sym (agrees (WaitsLock u l) acts) ∙ f.0 in
      record {
        after = record s' { statuses = slice_set s'.statuses u Enabled; holders = slice_set s'.holders l (Some u) };
        goes = ap (handing l (Some u) s' n) (held_passes n.tally.thread (slice_get s'.holders l) (handed l (Some u) (tables_of s')) held') ∙ unlocked_given_too l s' n u waits;
        moves = moves_of held' (waits_lock l (slice_get s.statuses u) f.0) (waits_lock l (slice_get s'.statuses u) waits);
      })
      agree
    where
      left : Notes
      left = woke (Some u) (note (Release l) n)

      moves_of : IsHeld n.tally.thread (slice_get s'.holders l) → slice_get s.statuses u ≡ Some (OnLock l) → slice_get s'.statuses u ≡ Some (OnLock l) → (o : Spot)
          → SpotMoves s (record s { statuses = slice_set s.statuses u Enabled; holders = slice_set s.holders l (Some u) }) s' (record s' { statuses = slice_set s'.statuses u Enabled; holders = slice_set s'.holders l (Some u) }) left o
      moves_of held' hu hu' (Holder k) =
          one_place (Writes left (Holder k)) s.holders s'.holders l (Some held.holder) (Some held'.holder) (Some u) k held.held held'.held
          (λ d. Any-push (ActsOn k) n.events (Release l) (sym d))
      moves_of held' hu hu' LockCount = inl (length-set s.holders l (Some u), length-set s'.holders l (Some u))
      moves_of held' hu hu' ThreadCount = inl (length-set s.statuses u Enabled, length-set s'.statuses u Enabled)
      moves_of held' hu hu' (Over k) = one_status over (Writes left (Over k)) s.statuses s'.statuses u (OnLock l) Enabled k hu hu' (λ d. inl refl)
      moves_of held' hu hu' (WaitsLock k m) =
          one_status (on_lock m) (Writes left (WaitsLock k m)) s.statuses s'.statuses u (OnLock l) Enabled k hu hu'
          (λ d. elim (lock_status m l (Writes left (WaitsLock k m)) (λ c. Any-push (ActsOn m) n.events (Release l) (sym c))) [ inl e ↦ inl (sym e) | inr w ↦ inr w ])
      moves_of held' hu hu' (WaitsJoin k j) = one_status (on_join j) (Writes left (WaitsJoin k j)) s.statuses s'.statuses u (OnLock l) Enabled k hu hu' (λ d. inl refl)
      moves_of held' hu hu' (InMemory o) = inl (refl, refl)

gives_back : (l : ℕ) (to : Option ℕ) → IsLocalQuery (Unlock l to)
gives_back l to s s' t n n' x i i' h agree =
    let k = holds n.tally.thread (slice_get s.holders l) (handed l to (tables_of s)) (handing l to s n) x (t, n') (λ r e. cc) h in
    unlocks l s s' t n n' x agree k.0 to k.1

-- ---- a new thread

starts_thread : IsLocalQuery Start
starts_thread s s' t n n' x i i' h agree =
    at_outcome h (λ y w. Agrees s s' w.1 → FollowsQuery Start s s' w.0 n w.1 y)
    (λ agrees.
    let e : length s.statuses ≡ length s'.statuses = agrees ThreadCount (Any-push IsSpawn n.events (Spawn (length s.statuses)) tt) in
    record {
      after = record s' { statuses = s'.statuses ++ Enabled ∷ [] };
      goes = ap (λ k. Went k (record s' { statuses = s'.statuses ++ Enabled ∷ [] }, woke (Some k) (note (Spawn k) n))) (sym e);
      moves = moves_of e;
    })
    agree
  where
    left : Notes
    left = woke (Some (length s.statuses)) (note (Spawn (length s.statuses)) n)

    moves_of : length s.statuses ≡ length s'.statuses → (o : Spot)
        → SpotMoves s (record s { statuses = s.statuses ++ Enabled ∷ [] }) s' (record s' { statuses = s'.statuses ++ Enabled ∷ [] }) left o
    moves_of e (Over k) =
        one_more over (Writes left (Over k)) s.statuses s'.statuses Enabled k e
        (λ d. inr (inl (last_is n.events (Spawn (length s.statuses)) (Spawn k) (ap Spawn (sym d)))))
    moves_of e (WaitsLock k m) = one_more (on_lock m) (Writes left (WaitsLock k m)) s.statuses s'.statuses Enabled k e (λ d. inl refl)
    moves_of e (WaitsJoin k u) = one_more (on_join u) (Writes left (WaitsJoin k u)) s.statuses s'.statuses Enabled k e (λ d. inl refl)
    moves_of e ThreadCount =
        inr (length_push s.statuses Enabled ∙ ap (λ k. k + 1) e ∙ sym (length_push s'.statuses Enabled), Any-push IsSpawn n.events (Spawn (length s.statuses)) tt)
    moves_of e _ = inl (refl, refl)

-- ---- the end of the thread

module _ (s s' : Shared) (n left : Notes) (over_now : left.ended ≡ true) (thread : left.tally.thread ≡ n.tally.thread) (on_now : slice_get s.statuses n.tally.thread ≡ Some Enabled) (on_now' : slice_get s'.statuses n.tally.thread ≡ Some Enabled) where
  -- its own status
  own : {V : Type 0} (view : Option Status → V) (xs : List Status) (k : ℕ) → slice_get xs n.tally.thread ≡ Some Enabled → k ≡ n.tally.thread → view (slice_get (after_end n.tally.thread xs) k) ≡ view (Some Ended)
  own view xs k e d = ap view (ap (slice_get (after_end n.tally.thread xs)) d ∙ ended_itself n.tally.thread xs Enabled e)

  was : {V : Type 0} (view : Option Status → V) (xs : List Status) (k : ℕ) → slice_get xs n.tally.thread ≡ Some Enabled → k ≡ n.tally.thread → view (Some Enabled) ≡ view (slice_get xs k)
  was view xs k e d = ap view (sym (ap (slice_get xs) d ∙ e))

  -- that of another thread
  other : {V : Type 0} (view : Option Status → V) (xs : List Status) (k : ℕ) → k ≢ n.tally.thread → view (slice_get (after_end n.tally.thread xs) k) ≡ view (option_map (wake n.tally.thread) (slice_get xs k))
  other view xs k d = ap view (behind_end n.tally.thread xs k d)

  long : (xs : List Status) → length (after_end n.tally.thread xs) ≡ length xs
  long xs = length-map (slice_set xs n.tally.thread Ended) (wake n.tally.thread) ∙ length-set xs n.tally.thread Ended

  end_moves : (o : Spot) → SpotMoves s (record s { statuses = after_end n.tally.thread s.statuses }) s' (record s' { statuses = after_end n.tally.thread s'.statuses }) left o
  end_moves (Over j) =
      elim (cases_eq j n.tally.thread) [
        | inl d ↦ inr (own over s.statuses j on_now d ∙ sym (own over s'.statuses j on_now' d), inr (over_now, thread ∙ sym d))
        | inr d ↦ inl (
          other over s.statuses j d ∙ woken_over n.tally.thread (slice_get s.statuses j),
          other over s'.statuses j d ∙ woken_over n.tally.thread (slice_get s'.statuses j),
        )
      ]
  end_moves (WaitsLock j m) =
      elim (cases_eq j n.tally.thread) [
        | inl d ↦ inl (
          own (on_lock m) s.statuses j on_now d ∙ was (on_lock m) s.statuses j on_now d,
          own (on_lock m) s'.statuses j on_now' d ∙ was (on_lock m) s'.statuses j on_now' d,
        )
        | inr d ↦ inl (
          other (on_lock m) s.statuses j d ∙ woken_lock n.tally.thread m (slice_get s.statuses j),
          other (on_lock m) s'.statuses j d ∙ woken_lock n.tally.thread m (slice_get s'.statuses j),
        )
      ]
  end_moves (WaitsJoin j u) =
      elim (cases_eq j n.tally.thread) [
        | inl d ↦ inl (
          own (on_join u) s.statuses j on_now d ∙ was (on_join u) s.statuses j on_now d,
          own (on_join u) s'.statuses j on_now' d ∙ was (on_join u) s'.statuses j on_now' d,
        )
        | inr d ↦ elim (cases_eq u n.tally.thread) [
          | inl c ↦ inr (
            subst (λ v. on_join v (slice_get (after_end n.tally.thread s.statuses) j) ≡ on_join v (slice_get (after_end n.tally.thread s'.statuses) j)) (sym c)
                (other (on_join n.tally.thread) s.statuses j d ∙ woken_join n.tally.thread (slice_get s.statuses j)
                ∙ sym (other (on_join n.tally.thread) s'.statuses j d ∙ woken_join n.tally.thread (slice_get s'.statuses j))),
            inr (over_now, thread ∙ sym c),
          )
          | inr c ↦ inl (
            other (on_join u) s.statuses j d ∙ kept_join n.tally.thread u c (slice_get s.statuses j),
            other (on_join u) s'.statuses j d ∙ kept_join n.tally.thread u c (slice_get s'.statuses j),
          )
        ]
      ]
  end_moves ThreadCount = inl (long s.statuses, long s'.statuses)
  end_moves _ = inl (refl, refl)

ends_thread : IsLocalQuery Finish
ends_thread s s' t n n' x i i' h agree =
    let b = not_broken n.stopped (Went tt (record s { statuses = after_end n.tally.thread s.statuses }, left (joiners n.tally.thread 0 s.statuses))) x (t, n') h in
    at_outcome b.1 (λ y w. Agrees s s' w.1 → FollowsQuery Finish s s' w.0 n w.1 y)
    (λ agrees.
    let same : joiners n.tally.thread 0 s'.statuses ≡ joiners n.tally.thread 0 s.statuses =
    same_joiners n.tally.thread 0 s'.statuses s.statuses (λ k. sym (agrees (WaitsJoin k n.tally.thread) (refl, refl))) in
    record {
      after = record s' { statuses = after_end n.tally.thread s'.statuses };
      goes =
          unbroken n.stopped (Went tt (record s' { statuses = after_end n.tally.thread s'.statuses }, left (joiners n.tally.thread 0 s'.statuses))) b.0
          ∙ ap (λ js. Went tt (record s' { statuses = after_end n.tally.thread s'.statuses }, left js)) same;
      moves = end_moves s s' n (left (joiners n.tally.thread 0 s.statuses)) refl refl (i b.0) (i' b.0);
    })
    agree
  where
    left : List ℕ → Notes
    left js = record n { ended = true; stopped = true; woken = n.woken ++ js }

-- ---- a print

prints : (text : List ℕ) → IsLocalQuery (Print text)
prints text s s' t n n' x i i' h agree =
    at_outcome h (λ y w. FollowsQuery (Print text) s s' w.0 n w.1 y) (record { after = s'; goes = refl; moves = λ o. inl (refl, refl) })

-- by the kind of query
local_query : (q : Query) → IsLocalQuery q
local_query (OfMemory q) = of_memory q
local_query NewLock = makes_lock
local_query (TryLock l) = tries_lock l
local_query (Waiting l) = looks l
local_query (Unlock l to) = gives_back l to
local_query Start = starts_thread
local_query (Await u) = awaits u
local_query Finish = ends_thread
local_query (Print text) = prints text

-- EACH QUERY IS LOCAL
pub local : IsLocal Query Reply Shared Notes answer Spot At at_spot Reads Writes IsGoing
local q s s' t n n' x i i' h agree =
    let f = local_query q s s' t n n' x i i' h agree in
    record { after = f.after; goes = f.goes; moves = f.moves }
