-- What a step notes of threads and locks is there, and how many there are.
use Rattle.mr_exchange.proofs.Common.{◌≡◌, ℕ, ◌+◌, ◌<◌, ◌≤◌, refl, sym, ◌∙◌, subst, List, [], ◌∷◌, ◌++◌, length, arith, ◌⊎◌, inl, inr, Any, Contains, None, length-map, length-set, length_push, Contains-append_cases, Contains-append_left, Contains-push, Contains-push_cases, slice_get_within, slice_set, Event, Acquire, CreateLock, Join, Quiet, Release, Spawn, Enabled, Ended, OnJoin, OnLock, joiners, wake, Notes, start_notes, Shared, Contains-nil, IsCreation, IsSpawn, HasOneEvent}
use Rattle.mr_base.proofs.Lists.{Any-append_left}
use Rattle.mr_exchange.proofs.Changes.{Change, at_memory, awaits_end, awaits_lock, frees_lock, gives_lock, new_lock, new_thread, own_end, prints, sees_end, sees_lock, takes_lock}
use Rattle.mr_exchange.proofs.ElementTests.{any_element, any_from}
use Rattle.mr_exchange.proofs.Rising.{joiner_between}

-- the lock or the thread of an event is there, with so many threads and locks
abbrev pub IsThere : ℕ → ℕ → Event → Type 0
IsThere threads locks Quiet = Unit {0}
IsThere threads locks (CreateLock l) = l < locks
IsThere threads locks (Acquire l) = l < locks
IsThere threads locks (Release l) = l < locks
IsThere threads locks (Spawn t) = t < threads
IsThere threads locks (Join t) = t < threads

there_more : (a b c d : ℕ) (e : Event) → a ≤ c → b ≤ d → IsThere a b e → IsThere c d e
there_more a b c d Quiet ts ls h = tt
there_more a b c d (CreateLock l) ts ls h = omega arith
there_more a b c d (Acquire l) ts ls h = omega arith
there_more a b c d (Release l) ts ls h = omega arith
there_more a b c d (Spawn t) ts ls h = omega arith
there_more a b c d (Join t) ts ls h = omega arith

-- as many as before, or one more where there is an event of this kind
abbrev pub Grew : (Event → Type 0) → List Event → ℕ → ℕ → Type 0
Grew P es before now = (now ≡ before) ⊎ (Any P es × (now ≡ before + 1))

-- With so many threads and locks before and now: what is noted is there; and where all events are one, at most one thread and one lock are new.
pub record Noted (threads locks : ℕ) (s : Shared) (n : Notes) : Type 0 where
  pub events : (e : Event) → Contains n.events e → IsThere (length s.statuses) (length s.holders) e
  pub woken : (u : ℕ) → Contains n.woken u → u < length s.statuses
  pub new_threads : HasOneEvent n.events → Grew IsSpawn n.events threads (length s.statuses)
  pub new_locks : HasOneEvent n.events → Grew IsCreation n.events locks (length s.holders)

pub start_noted : (s : Shared) (t count : ℕ) → Noted (length s.statuses) (length s.holders) s (start_notes t count)
start_noted s t count = record {
  events = λ e h. absurd (Contains-nil e h);
  woken = λ u h. absurd (Contains-nil u h);
  new_threads = λ h. inl refl;
  new_locks = λ h. inl refl;
}

-- ---- one event more

-- those before it are one too
one_before : (es : List Event) (e : Event) → HasOneEvent (es ++ e ∷ []) → HasOneEvent es
one_before [] e h d c = absurd (Contains-nil d c)
one_before (x ∷ es) e h d c = h d (Contains-append_left (x ∷ es) (e ∷ []) d c)

-- and are the last
same_as_last : (es : List Event) (e d : Event) → HasOneEvent (es ++ e ∷ []) → Contains es d → d ≡ e
same_as_last es e d h c = sym (h d (Contains-append_left es (e ∷ []) d c)) ∙ h e (Contains-push es e)

grew_same : (P : Event → Type 0) (es : List Event) (e : Event) (before now : ℕ) → (HasOneEvent es → Grew P es before now) → HasOneEvent (es ++ e ∷ []) → Grew P (es ++ e ∷ []) before now
grew_same P es e before now g h = elim (g (one_before es e h)) [ inl same ↦ inl same | inr more ↦ inr (Any-append_left P es (e ∷ []) more.0, more.1) ]

-- the last makes one more, and no earlier one can have been the same
grew_new : (P : Event → Type 0) (es : List Event) (e : Event) (before now after : ℕ) → P e → after ≡ now + 1 → ((d : Event) → Contains es d → d ≡ e → ⊥)
    → (HasOneEvent es → Grew P es before now) → HasOneEvent (es ++ e ∷ []) → Grew P (es ++ e ∷ []) before after
grew_new P es e before now after holds more never g h = elim (g (one_before es e h)) [
  | inl same ↦ inr (any_from P (es ++ e ∷ []) e (Contains-push es e) holds, omega (arith, same, more))
  | inr old ↦ let d = any_element P es old.0 in absurd (never d.0 d.1 (same_as_last es e d.0 h d.1))
]

module _ (threads locks : ℕ) (s : Shared) (n : Notes) (f : Noted threads locks s n) where
  -- an event of what is there, and no more threads or locks
  with_event : (e : Event) (t : Shared) (n' : Notes) → length t.statuses ≡ length s.statuses → length t.holders ≡ length s.holders → IsThere (length s.statuses) (length s.holders) e
      → n'.events ≡ n.events ++ e ∷ [] → ((u : ℕ) → Contains n'.woken u → u < length s.statuses) → Noted threads locks t n'
  with_event e t n' st sl is es woken = record {
    events = λ d c. elim (Contains-push_cases n.events e d (subst (λ l. Contains l d) es c)) [
      | inl k ↦ there_more (length s.statuses) (length s.holders) (length t.statuses) (length t.holders) d (omega (arith, st)) (omega (arith, sl)) (f.events d k)
      | inr k ↦ there_more (length s.statuses) (length s.holders) (length t.statuses) (length t.holders) d (omega (arith, st)) (omega (arith, sl)) (subst (IsThere (length s.statuses) (length s.holders)) k is)
    ];
    woken = λ u c. let lt = woken u c in omega (arith, st);
    new_threads = λ h.
        subst (λ (l : List Event). Grew IsSpawn l threads (length t.statuses)) (sym es)
        (subst (Grew IsSpawn (n.events ++ e ∷ []) threads) (sym st) (grew_same IsSpawn n.events e threads (length s.statuses) f.new_threads (subst HasOneEvent es h)));
    new_locks = λ h.
        subst (λ (l : List Event). Grew IsCreation l locks (length t.holders)) (sym es)
        (subst (Grew IsCreation (n.events ++ e ∷ []) locks) (sym sl) (grew_same IsCreation n.events e locks (length s.holders) f.new_locks (subst HasOneEvent es h)));
  }

  -- no event, and no more threads or locks
  without_event : (t : Shared) (n' : Notes) → length t.statuses ≡ length s.statuses → length t.holders ≡ length s.holders → n'.events ≡ n.events
      → ((u : ℕ) → Contains n'.woken u → u < length s.statuses) → Noted threads locks t n'
  without_event t n' st sl es woken = record {
    events = λ d c. there_more (length s.statuses) (length s.holders) (length t.statuses) (length t.holders) d (omega (arith, st)) (omega (arith, sl)) (f.events d (subst (λ l. Contains l d) es c));
    woken = λ u c. let lt = woken u c in omega (arith, st);
    new_threads = λ h. subst (λ (l : List Event). Grew IsSpawn l threads (length t.statuses)) (sym es) (subst (Grew IsSpawn n.events threads) (sym st) (f.new_threads (subst HasOneEvent es h)));
    new_locks = λ h. subst (λ (l : List Event). Grew IsCreation l locks (length t.holders)) (sym es) (subst (Grew IsCreation n.events locks) (sym sl) (f.new_locks (subst HasOneEvent es h)));
  }

  -- one more is woken
  more_woken : (u : ℕ) → u < length s.statuses → (k : ℕ) → Contains (n.woken ++ u ∷ []) k → k < length s.statuses
  more_woken u lt k c = elim (Contains-push_cases n.woken u k c) [ inl old ↦ f.woken k old | inr e ↦ omega (arith, e) ]

  -- a new lock
  noted_lock : Noted threads locks (record s { holders = s.holders ++ None ∷ [] }) (record n { events = n.events ++ CreateLock (length s.holders) ∷ [] })
  noted_lock =
      let e : Event = CreateLock (length s.holders) in
      let long = length_push s.holders None in
      record {
        events = λ d c. elim (Contains-push_cases n.events e d c) [
          | inl k ↦ there_more (length s.statuses) (length s.holders) (length s.statuses) (length (s.holders ++ None ∷ [])) d (omega arith) (omega arith) (f.events d k)
          | inr k ↦ subst (IsThere (length s.statuses) (length (s.holders ++ None ∷ []))) k (let lt : length s.holders < length (s.holders ++ None ∷ []) = omega arith in lt)
        ];
        woken = f.woken;
        new_threads = grew_same IsSpawn n.events e threads (length s.statuses) f.new_threads;
        new_locks = grew_new IsCreation n.events e locks (length s.holders) (length (s.holders ++ None ∷ [])) tt long
            (λ d c same. let lt : length s.holders < length s.holders = subst (IsThere (length s.statuses) (length s.holders)) same (f.events d c) in omega arith) f.new_locks;
      }

  -- a new thread
  noted_thread : Noted threads locks (record s { statuses = s.statuses ++ Enabled ∷ [] })
      (record n { events = n.events ++ Spawn (length s.statuses) ∷ []; woken = n.woken ++ length s.statuses ∷ [] })
  noted_thread =
      let e : Event = Spawn (length s.statuses) in
      let long = length_push s.statuses Enabled in
      record {
        events = λ d c. elim (Contains-push_cases n.events e d c) [
          | inl k ↦ there_more (length s.statuses) (length s.holders) (length (s.statuses ++ Enabled ∷ [])) (length s.holders) d (omega arith) (omega arith) (f.events d k)
          | inr k ↦ subst (IsThere (length (s.statuses ++ Enabled ∷ [])) (length s.holders)) k (let lt : length s.statuses < length (s.statuses ++ Enabled ∷ []) = omega arith in lt)
        ];
        woken = λ u c. elim (Contains-push_cases n.woken (length s.statuses) u c) [ inl old ↦ (let lt = f.woken u old in omega arith) | inr k ↦ omega arith ];
        new_threads = grew_new IsSpawn n.events e threads (length s.statuses) (length (s.statuses ++ Enabled ∷ [])) tt long
            (λ d c same. let lt : length s.statuses < length s.statuses = subst (IsThere (length s.statuses) (length s.holders)) same (f.events d c) in omega arith) f.new_threads;
        new_locks = grew_same IsCreation n.events e locks (length s.holders) f.new_locks;
      }

  -- the thread ends
  ended_woken : (t u : ℕ) → Contains (n.woken ++ joiners t 0 s.statuses) u → u < length s.statuses
  ended_woken t u c = elim (Contains-append_cases n.woken (joiners t 0 s.statuses) u c) [
    | inl old ↦ f.woken u old
    | inr k ↦ let b = joiner_between t 0 s.statuses u k in let high = b.1 in omega arith
  ]

-- EACH CHANGE KEEPS IT
pub noted_kept : (threads locks : ℕ) (s t : Shared) (n n' : Notes) → Change s n t n' → Noted threads locks s n → Noted threads locks t n'
noted_kept threads locks s t n n' (at_memory q x m k e) f = record { events = f.events; woken = f.woken; new_threads = f.new_threads; new_locks = f.new_locks }
noted_kept threads locks s t n n' new_lock f = noted_lock threads locks s n f
noted_kept threads locks s t n n' (takes_lock l lt) f = with_event threads locks s n f (Acquire l) _ _ refl (length-set s.holders l _) lt refl f.woken
noted_kept threads locks s t n n' (awaits_lock l lt) f = with_event threads locks s n f (Acquire l) _ _ (length-set s.statuses n.tally.thread (OnLock l)) refl lt refl f.woken
noted_kept threads locks s t n n' (sees_lock l lt) f = with_event threads locks s n f (Release l) _ _ refl refl lt refl f.woken
noted_kept threads locks s t n n' (frees_lock l lt) f = with_event threads locks s n f (Release l) _ _ refl (length-set s.holders l None) lt refl f.woken
noted_kept threads locks s t n n' (gives_lock l u lt w) f =
    with_event threads locks s n f (Release l) _ _ (length-set s.statuses u Enabled) (length-set s.holders l _) lt refl (more_woken threads locks s n f u (slice_get_within s.statuses u (OnLock l) w))
noted_kept threads locks s t n n' new_thread f = noted_thread threads locks s n f
noted_kept threads locks s t n n' (sees_end u lt) f = with_event threads locks s n f (Join u) _ _ refl refl lt refl f.woken
noted_kept threads locks s t n n' (awaits_end u lt) f = with_event threads locks s n f (Join u) _ _ (length-set s.statuses n.tally.thread (OnJoin u)) refl lt refl f.woken
noted_kept threads locks s t n n' own_end f =
    without_event threads locks s n f _ _ (length-map (slice_set s.statuses n.tally.thread Ended) (wake n.tally.thread) ∙ length-set s.statuses n.tally.thread Ended) refl refl (ended_woken threads locks s n f n.tally.thread)
noted_kept threads locks s t n n' (prints text) f = without_event threads locks s n f _ _ refl refl refl f.woken
