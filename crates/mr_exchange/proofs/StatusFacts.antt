-- What is known of the threads' statuses at each moment of a step: who is enabled, and who was.
use Rattle.mr_exchange.proofs.Common.{◌≡◌, ◌≢◌, ℕ, ◌+◌, ◌≤◌, refl, sym, ap, ◌∙◌, subst, List, [], ◌∷◌, ◌++◌, length, arith, ◌⊎◌, inl, inr, Some, Contains, slice_get, slice_set, option_map, cases_eq, length-map, length-set, length_push, Contains-append_left, Contains-append_right, Contains-push_cases, Event, Acquire, CreateLock, Join, Release, Spawn, Status, Enabled, Ended, OnJoin, OnLock, joiners, wake, Notes, start_notes, Shared, Contains-nil, tally_grows, set_there}
use Rattle.mr_exchange.proofs.Changes.{Change, at_memory, awaits_end, awaits_lock, frees_lock, gives_lock, new_lock, new_thread, own_end, prints, sees_end, sees_lock, takes_lock}
use Rattle.mr_exchange.proofs.ElementTests.{last_is}
use Rattle.mr_exchange.proofs.PushedLists.{push_here, push_there, set_same}
use Rattle.mr_exchange.proofs.Statuses.{after_end, behind_end, joiner_listed, woken_enabled}

-- A step of thread t began with the statuses ss and is at xs with the notes n: it disabled no other thread; each other thread that is enabled
-- was so before, or is noted as woken; the threads that it started are new, and none is gone.
pub record StatusFacts (ss : List Status) (t : ℕ) (xs : List Status) (n : Notes) : Type 0 where
  pub thread : n.tally.thread ≡ t
  pub kept : (u : ℕ) → u ≢ t → slice_get ss u ≡ Some Enabled → slice_get xs u ≡ Some Enabled
  pub before : (u : ℕ) → u ≢ t → slice_get xs u ≡ Some Enabled → (slice_get ss u ≡ Some Enabled) ⊎ Contains n.woken u
  pub started : (u : ℕ) → Contains n.events (Spawn u) → length ss ≤ u
  pub grew : length ss ≤ length xs

-- what holds before the first query
pub start_statuses : (ss : List Status) (t count : ℕ) → StatusFacts ss t ss (start_notes t count)
start_statuses ss t count = record {
  thread = refl;
  kept = λ u d h. h;
  before = λ u d h. inl h;
  started = λ u h. absurd (Contains-nil (Spawn u) h);
  grew = omega arith;
}

-- a spawn that is noted, where the last event is none
earlier_spawn : (es : List Event) (e : Event) → ((u : ℕ) → e ≡ Spawn u → ⊥) → (u : ℕ) → Contains (es ++ e ∷ []) (Spawn u) → Contains es (Spawn u)
earlier_spawn es e none u h = elim (Contains-push_cases es e (Spawn u) h) [ inl k ↦ k | inr k ↦ absurd (none u k) ]

module _ (ss : List Status) (t : ℕ) (xs : List Status) (n : Notes) (f : StatusFacts ss t xs n) where
  -- notes that say the same of threads
  facts_same : (n' : Notes) → n'.tally.thread ≡ n.tally.thread → n'.woken ≡ n.woken → ((u : ℕ) → Contains n'.events (Spawn u) → Contains n.events (Spawn u)) → StatusFacts ss t xs n'
  facts_same n' e w spawns = record {
    thread = e ∙ f.thread;
    kept = f.kept;
    before = λ u d h. elim (f.before u d h) [ inl k ↦ inl k | inr k ↦ inr (subst (λ l. Contains l u) (sym w) k) ];
    started = λ u h. f.started u (spawns u h);
    grew = f.grew;
  }

  -- another status of its own
  facts_own : (v : Status) → StatusFacts ss t (slice_set xs n.tally.thread v) n
  facts_own v = record {
    thread = f.thread;
    kept = λ u d h. set_there xs n.tally.thread u v (λ e. d (e ∙ f.thread)) ∙ f.kept u d h;
    before = λ u d h. f.before u d (sym (set_there xs n.tally.thread u v (λ e. d (e ∙ f.thread))) ∙ h);
    started = f.started;
    grew = let e = length-set xs n.tally.thread v in let g = f.grew in omega arith;
  }

  -- a waiter is woken
  facts_woken : (u : ℕ) (old : Status) (n' : Notes) → slice_get xs u ≡ Some old → n'.tally.thread ≡ n.tally.thread → n'.woken ≡ n.woken ++ u ∷ []
      → ((k : ℕ) → Contains n'.events (Spawn k) → Contains n.events (Spawn k)) → StatusFacts ss t (slice_set xs u Enabled) n'
  facts_woken u old n' h e w spawns = record {
    thread = e ∙ f.thread;
    kept = λ k d a. elim (cases_eq k u) [
      | inl c ↦ ap (slice_get (slice_set xs u Enabled)) c ∙ set_same xs u old Enabled h
      | inr c ↦ set_there xs u k Enabled c ∙ f.kept k d a
    ];
    before = λ k d a. elim (cases_eq k u) [
      | inl c ↦ inr (subst (λ l. Contains l k) (sym w) (last_is n.woken u k (sym c)))
      | inr c ↦ elim (f.before k d (sym (set_there xs u k Enabled c) ∙ a)) [
        | inl j ↦ inl j
        | inr j ↦ inr (subst (λ l. Contains l k) (sym w) (Contains-append_left n.woken (u ∷ []) k j))
      ]
    ];
    started = λ k a. f.started k (spawns k a);
    grew = let e = length-set xs u Enabled in let g = f.grew in omega arith;
  }

  -- a thread is started, and noted as woken
  facts_started : (n' : Notes) → n'.tally.thread ≡ n.tally.thread → n'.woken ≡ n.woken ++ length xs ∷ [] → n'.events ≡ n.events ++ Spawn (length xs) ∷ []
      → StatusFacts ss t (xs ++ Enabled ∷ []) n'
  facts_started n' e w es = record {
    thread = e ∙ f.thread;
    kept = λ k d a. elim (cases_eq k (length xs)) [
      | inl c ↦ ap (slice_get (xs ++ Enabled ∷ [])) c ∙ push_here xs Enabled
      | inr c ↦ push_there xs Enabled k c ∙ f.kept k d a
    ];
    before = λ k d a. elim (cases_eq k (length xs)) [
      | inl c ↦ inr (subst (λ l. Contains l k) (sym w) (last_is n.woken (length xs) k (sym c)))
      | inr c ↦ elim (f.before k d (sym (push_there xs Enabled k c) ∙ a)) [
        | inl j ↦ inl j
        | inr j ↦ inr (subst (λ l. Contains l k) (sym w) (Contains-append_left n.woken (length xs ∷ []) k j))
      ]
    ];
    started = λ k a. elim (Contains-push_cases n.events (Spawn (length xs)) (Spawn k) (subst (λ l. Contains l (Spawn k)) es a)) [
      | inl j ↦ f.started k j
      | inr j ↦ let same : length xs ≡ k = cc in let g = f.grew in omega arith
    ];
    grew = let e = length_push xs Enabled in let g = f.grew in omega arith;
  }

  -- the thread ends, and wakes those that wait for that
  facts_ended : (n' : Notes) → n'.tally.thread ≡ n.tally.thread → n'.woken ≡ n.woken ++ joiners n.tally.thread 0 xs → n'.events ≡ n.events
      → StatusFacts ss t (after_end n.tally.thread xs) n'
  facts_ended n' e w es = record {
    thread = e ∙ f.thread;
    kept = λ k d a. behind_end n.tally.thread xs k (λ c. d (c ∙ f.thread)) ∙ ap (option_map (wake n.tally.thread)) (f.kept k d a);
    before = λ k d a. elim (woken_enabled n.tally.thread (slice_get xs k) (sym (behind_end n.tally.thread xs k (λ c. d (c ∙ f.thread))) ∙ a)) [
      | inl j ↦ elim (f.before k d j) [
        | inl i ↦ inl i
        | inr i ↦ inr (subst (λ l. Contains l k) (sym w) (Contains-append_left n.woken (joiners n.tally.thread 0 xs) k i))
      ]
      | inr j ↦
          let none : 0 + k ≡ k = omega arith in
          let listed : Contains (joiners n.tally.thread 0 xs) k = subst (Contains (joiners n.tally.thread 0 xs)) none (joiner_listed n.tally.thread 0 xs k j) in
          inr (subst (λ l. Contains l k) (sym w) (Contains-append_right n.woken (joiners n.tally.thread 0 xs) k listed))
    ];
    started = λ k a. f.started k (subst (λ l. Contains l (Spawn k)) es a);
    grew =
        let e1 = length-map (slice_set xs n.tally.thread Ended) (wake n.tally.thread) in
        let e2 = length-set xs n.tally.thread Ended in
        let g = f.grew in omega arith;
  }

-- EACH CHANGE KEEPS THE FACTS
pub status_facts : (ss : List Status) (t : ℕ) (s s' : Shared) (n n' : Notes) → Change s n s' n' → StatusFacts ss t s.statuses n → StatusFacts ss t s'.statuses n'
status_facts ss t s s' n n' (at_memory q x m k e) f = facts_same ss t s.statuses n f _ (tally_grows q s.memory m n.tally k x e).thread refl (λ u h. h)
status_facts ss t s s' n n' new_lock f = facts_same ss t s.statuses n f _ refl refl (earlier_spawn n.events (CreateLock (length s.holders)) (λ u e. cc))
status_facts ss t s s' n n' (takes_lock l there) f = facts_same ss t s.statuses n f _ refl refl (earlier_spawn n.events (Acquire l) (λ u e. cc))
status_facts ss t s s' n n' (awaits_lock l there) f =
    facts_same ss t (slice_set s.statuses n.tally.thread (OnLock l)) n (facts_own ss t s.statuses n f (OnLock l)) _ refl refl (earlier_spawn n.events (Acquire l) (λ u e. cc))
status_facts ss t s s' n n' (sees_lock l there) f = facts_same ss t s.statuses n f _ refl refl (earlier_spawn n.events (Release l) (λ u e. cc))
status_facts ss t s s' n n' (frees_lock l there) f = facts_same ss t s.statuses n f _ refl refl (earlier_spawn n.events (Release l) (λ u e. cc))
status_facts ss t s s' n n' (gives_lock l u there w) f = facts_woken ss t s.statuses n f u (OnLock l) _ w refl refl (earlier_spawn n.events (Release l) (λ k e. cc))
status_facts ss t s s' n n' new_thread f = facts_started ss t s.statuses n f _ refl refl refl
status_facts ss t s s' n n' (sees_end u there) f = facts_same ss t s.statuses n f _ refl refl (earlier_spawn n.events (Join u) (λ k e. cc))
status_facts ss t s s' n n' (awaits_end u there) f =
    facts_same ss t (slice_set s.statuses n.tally.thread (OnJoin u)) n (facts_own ss t s.statuses n f (OnJoin u)) _ refl refl (earlier_spawn n.events (Join u) (λ k e. cc))
status_facts ss t s s' n n' own_end f = facts_ended ss t s.statuses n f _ refl refl refl
status_facts ss t s s' n n' (prints text) f = facts_same ss t s.statuses n f _ refl refl (λ u h. h)
