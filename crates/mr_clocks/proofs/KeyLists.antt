-- The keys of a step as lists.
use Rattle.mr_clocks.proofs.Common.{◌≡◌, ℕ, ◌+◌, ◌<◌, ◌≤◌, ◌⊎◌, inl, inr, List, [], ◌∷◌, ◌++◌, Bool, true, false, map, length, get_or, take, refl, sym, ◌∙◌, ap, arith, Some, ◌==◌, ◌&&◌, ◌||◌, slice_index, Contains, list_any, and_from, and_parts, eq-eqb, eqb-true, false≢true, or_cases, or_left, or_right, get_or-map, length-map, take_all, Contains-append_left, Contains-append_right, list_any_at, Access, AllocId, Event, Quiet, CreateLock, Acquire, Release, Spawn, Join, races, some_race, Footprint, lock_of, same_number, spawns, Key, Lock, Creation, Spawning, Starts, Joins, Made, Touched, Range, Wakes, Row, IsExact, asks, creates, end_asked, end_noted, event_asked, event_noted, has_row, joins, made_keys, range_keys, same_access, same_bool, spawns_some, starts, touched_keys, ArePlaces, IsRowFor, subst}
use Rattle.std.specs.Prelude.{slice_index_or, All, not}
use Rattle.std.proofs.lemmas.List.{append_assoc, map_more}
use Rattle.std.proofs.lemmas.List.Elements.{All-append, All-cons, All-map, All-nil}
use Rattle.std.proofs.lemmas.Map.Views.{Contains-from_any}
use Rattle.std.proofs.lemmas.Bool.{not-true, not_from_false}
use Rattle.mr_base.specs.Identities.{same_id}
use Rattle.mr_clocks.specs.Keys.{keys_asked, keys_noted, is_shared, lock_key, stores}
use Rattle.mr_clocks.specs.declared.keys.Key.TheVariants.{Storing}
use Rattle.mr_clocks.proofs.KeyLaws.{same_access_refl, same_id_refl}

-- ---- lists that are made an element at a time

pub mapped_more : {A B : Type 0} (f : A → B) (old keys new : List B) (xs : List A) (i : ℕ) (d : A) → i < length xs → keys ≡ old ++ map f (take i xs) → new ≡ keys ++ f (get_or xs i d) ∷ [] → new ≡ old ++ map f (take (i + 1) xs)
mapped_more f old keys new xs i d lt is pushed =
    pushed
    ∙ ap (λ l. l ++ f (get_or xs i d) ∷ []) is
    ∙ append_assoc old (map f (take i xs)) (f (get_or xs i d) ∷ [])
    ∙ ap (λ l. old ++ l) (sym (map_more f xs i d lt))

pub mapped_all : {A B : Type 0} (f : A → B) (old keys : List B) (xs : List A) (i : ℕ) → length xs ≤ i → keys ≡ old ++ map f (take i xs) → keys ≡ old ++ map f xs
mapped_all f old keys xs i le is = is ∙ ap (λ l. old ++ map f l) (take_all i xs le)

-- five parts, appended one after the other
pub five_parts : (a b c d e k0 k1 k2 k3 k4 k5 : List Key) → k0 ≡ [] → k1 ≡ k0 ++ a → k2 ≡ k1 ++ b → k3 ≡ k2 ++ c → k4 ≡ k3 ++ d → k5 ≡ k4 ++ e → k5 ≡ a ++ (b ++ (c ++ (d ++ e)))
five_parts a b c d e k0 k1 k2 k3 k4 k5 e0 e1 e2 e3 e4 e5 =
    e5
    ∙ ap (λ (l : List Key). l ++ e) (e4 ∙ ap (λ (l : List Key). l ++ d) (e3 ∙ ap (λ (l : List Key). l ++ c) (e2 ∙ ap (λ (l : List Key). l ++ b) (e1 ∙ ap (λ (l : List Key). l ++ a) e0))))
    ∙ append_assoc ((a ++ b) ++ c) d e
    ∙ append_assoc (a ++ b) c (d ++ e)
    ∙ append_assoc a b (c ++ (d ++ e))

-- and one more
pub six_parts : (a b c d e f k0 k1 k2 k3 k4 k5 k6 : List Key) → k0 ≡ [] → k1 ≡ k0 ++ a → k2 ≡ k1 ++ b → k3 ≡ k2 ++ c → k4 ≡ k3 ++ d → k5 ≡ k4 ++ e → k6 ≡ k5 ++ f → k6 ≡ a ++ (b ++ (c ++ (d ++ (e ++ f))))
six_parts a b c d e f k0 k1 k2 k3 k4 k5 k6 e0 e1 e2 e3 e4 e5 e6 =
    e6
    ∙ ap (λ (l : List Key). l ++ f) (five_parts a b c d e k0 k1 k2 k3 k4 k5 e0 e1 e2 e3 e4 e5)
    ∙ append_assoc a (b ++ (c ++ (d ++ e))) f
    ∙ ap (λ (l : List Key). a ++ l) (append_assoc b (c ++ (d ++ e)) f ∙ ap (λ (l : List Key). b ++ l) (append_assoc c (d ++ e) f ∙ ap (λ (l : List Key). c ++ l) (append_assoc d e f)))

-- ---- tests that hold of equal things alone

pub id_exact : (a b : AllocId) → same_id a b ≡ true → a ≡ b
id_exact a b e =
    let p = and_parts (a.thread == b.thread) (a.count == b.count) e in
    let one : a.thread ≡ b.thread = eqb-true a.thread b.thread p.0 in
    let two : a.count ≡ b.count = eqb-true a.count b.count p.1 in
    λ i. record { thread = one i; count = two i }

bool_exact : (a b : Bool) → same_bool a b ≡ true → a ≡ b
bool_exact true true e = refl
bool_exact true false e = absurd (false≢true e)
bool_exact false true e = absurd (false≢true e)
bool_exact false false e = refl

pub access_exact : (a b : Access) → same_access a b ≡ true → a ≡ b
access_exact a b e =
    let p = and_parts (same_bool a.store b.store && same_bool a.atomic b.atomic && (a.addr == b.addr)) (a.len == b.len) e in
    let q = and_parts (same_bool a.store b.store && same_bool a.atomic b.atomic) (a.addr == b.addr) p.0 in
    let r = and_parts (same_bool a.store b.store) (same_bool a.atomic b.atomic) q.0 in
    let one : a.store ≡ b.store = bool_exact a.store b.store r.0 in
    let two : a.atomic ≡ b.atomic = bool_exact a.atomic b.atomic r.1 in
    let three : a.addr ≡ b.addr = eqb-true a.addr b.addr q.1 in
    let four : a.len ≡ b.len = eqb-true a.len b.len p.1 in
    λ i. record { store = one i; atomic = two i; addr = three i; len = four i }

-- the key of an element stands among the keys of all
any_mapped : {X : Type 0} (eq : X → X → Bool) (make : X → Key) → ((x y : X) → eq x y ≡ true → x ≡ y) → (x : X) (xs : List X) → list_any (eq x) xs ≡ true → Contains (map make xs) (make x)
any_mapped eq make exact x xs h =
    let c = Contains-from_any exact x xs h in
    (c.0, omega (arith, length-map xs make, c.1), get_or-map make xs c.0 x (make x) c.1 ∙ ap make c.2)

-- ---- the keys of an event

lock_noted : (b : Bool) (e : Event) (n : ℕ) → same_number (lock_of e) (Some n) ≡ true → Contains (event_noted b e) (lock_key b n)
lock_noted b (CreateLock l) n h = (0, omega arith, ap (lock_key b) (eqb-true l n h))
lock_noted b (Acquire l) n h = (0, omega arith, ap (lock_key b) (eqb-true l n h))
lock_noted b (Release l) n h = (0, omega arith, ap (lock_key b) (eqb-true l n h))
lock_noted b Quiet n h = absurd (false≢true h)
lock_noted b (Spawn t) n h = absurd (false≢true h)
lock_noted b (Join t) n h = absurd (false≢true h)

lock_asked : (e : Event) (n : ℕ) → same_number (lock_of e) (Some n) ≡ true → Contains (event_asked e) (Lock n)
lock_asked (CreateLock l) n h = (0, omega arith, ap Lock (eqb-true l n h))
lock_asked (Acquire l) n h = (0, omega arith, ap Lock (eqb-true l n h))
lock_asked (Release l) n h = (0, omega arith, ap Lock (eqb-true l n h))
lock_asked Quiet n h = absurd (false≢true h)
lock_asked (Spawn t) n h = absurd (false≢true h)
lock_asked (Join t) n h = absurd (false≢true h)

storing_asked : (e : Event) (n : ℕ) → same_number (lock_of e) (Some n) ≡ true → Contains (event_asked e) (Storing n)
storing_asked (CreateLock l) n h = (1, omega arith, ap Storing (eqb-true l n h))
storing_asked (Acquire l) n h = (1, omega arith, ap Storing (eqb-true l n h))
storing_asked (Release l) n h = (1, omega arith, ap Storing (eqb-true l n h))
storing_asked Quiet n h = absurd (false≢true h)
storing_asked (Spawn t) n h = absurd (false≢true h)
storing_asked (Join t) n h = absurd (false≢true h)

creation_noted : (b : Bool) (e : Event) → creates e ≡ true → Contains (event_noted b e) Creation
creation_noted b (CreateLock l) h = (1, omega arith, refl)
creation_noted b Quiet h = absurd (false≢true h)
creation_noted b (Acquire l) h = absurd (false≢true h)
creation_noted b (Release l) h = absurd (false≢true h)
creation_noted b (Spawn t) h = absurd (false≢true h)
creation_noted b (Join t) h = absurd (false≢true h)

creation_asked : (e : Event) → creates e ≡ true → Contains (event_asked e) Creation
creation_asked (CreateLock l) h = (2, omega arith, refl)
creation_asked Quiet h = absurd (false≢true h)
creation_asked (Acquire l) h = absurd (false≢true h)
creation_asked (Release l) h = absurd (false≢true h)
creation_asked (Spawn t) h = absurd (false≢true h)
creation_asked (Join t) h = absurd (false≢true h)

spawning_noted : (b : Bool) (e : Event) → spawns_some e ≡ true → Contains (event_noted b e) Spawning
spawning_noted b (Spawn t) h = (0, omega arith, refl)
spawning_noted b Quiet h = absurd (false≢true h)
spawning_noted b (CreateLock l) h = absurd (false≢true h)
spawning_noted b (Acquire l) h = absurd (false≢true h)
spawning_noted b (Release l) h = absurd (false≢true h)
spawning_noted b (Join t) h = absurd (false≢true h)

spawning_asked : (e : Event) → spawns_some e ≡ true → Contains (event_asked e) Spawning
spawning_asked (Spawn t) h = (0, omega arith, refl)
spawning_asked Quiet h = absurd (false≢true h)
spawning_asked (CreateLock l) h = absurd (false≢true h)
spawning_asked (Acquire l) h = absurd (false≢true h)
spawning_asked (Release l) h = absurd (false≢true h)
spawning_asked (Join t) h = absurd (false≢true h)

join_noted : (b : Bool) (e : Event) (t : ℕ) → joins e t ≡ true → Contains (event_noted b e) (Joins t)
join_noted b (Join s) t h = (0, omega arith, ap Joins (eqb-true s t h))
join_noted b Quiet t h = absurd (false≢true h)
join_noted b (CreateLock l) t h = absurd (false≢true h)
join_noted b (Acquire l) t h = absurd (false≢true h)
join_noted b (Release l) t h = absurd (false≢true h)
join_noted b (Spawn s) t h = absurd (false≢true h)

join_asked : (e : Event) (t : ℕ) → joins e t ≡ true → Contains (event_asked e) (Starts t)
join_asked (Join s) t h = (0, omega arith, ap Starts (eqb-true s t h))
join_asked Quiet t h = absurd (false≢true h)
join_asked (CreateLock l) t h = absurd (false≢true h)
join_asked (Acquire l) t h = absurd (false≢true h)
join_asked (Release l) t h = absurd (false≢true h)
join_asked (Spawn s) t h = absurd (false≢true h)

-- of a spawned thread: the second key in whose rows the step is noted, and the second that it asks
spawn_noted : (b : Bool) (e : Event) (t : ℕ) → spawns e t ≡ true → Contains (event_noted b e) (Starts t)
spawn_noted b (Spawn s) t h = (1, omega arith, ap Starts (eqb-true s t h))
spawn_noted b Quiet t h = absurd (false≢true h)
spawn_noted b (CreateLock l) t h = absurd (false≢true h)
spawn_noted b (Acquire l) t h = absurd (false≢true h)
spawn_noted b (Release l) t h = absurd (false≢true h)
spawn_noted b (Join s) t h = absurd (false≢true h)

spawn_asked : (e : Event) (t : ℕ) → spawns e t ≡ true → Contains (event_asked e) (Joins t)
spawn_asked (Spawn s) t h = (1, omega arith, ap Joins (eqb-true s t h))
spawn_asked Quiet t h = absurd (false≢true h)
spawn_asked (CreateLock l) t h = absurd (false≢true h)
spawn_asked (Acquire l) t h = absurd (false≢true h)
spawn_asked (Release l) t h = absurd (false≢true h)
spawn_asked (Join s) t h = absurd (false≢true h)

ended_noted : (b : Bool) (s t : ℕ) → b ≡ true → (s == t) ≡ true → Contains (end_noted b s) (Starts t)
ended_noted true s t e h = (0, omega arith, ap Starts (eqb-true s t h))
ended_noted false s t e h = absurd (false≢true e)

ended_asked : (b : Bool) (s t : ℕ) → b ≡ true → (s == t) ≡ true → Contains (end_asked b s) (Joins t)
ended_asked true s t e h = (0, omega arith, ap Joins (eqb-true s t h))
ended_asked false s t e h = absurd (false≢true e)

-- ---- each key in whose rows a step is noted stands in the list

module _ (f : Footprint) where
  abbrev behind_made : List Key
  behind_made = touched_keys f.touched ++ range_keys f.accesses

  abbrev behind_end : List Key
  behind_end = made_keys f.allocated ++ behind_made

  abbrev behind_event : List Key
  behind_event = end_noted f.ended f.thread ++ behind_end

  in_event : (k : Key) → Contains (event_noted (stores f) f.event) k → Contains (keys_noted f) k
  in_event k c = Contains-append_left (event_noted (stores f) f.event) behind_event k c

  past_event : (k : Key) → Contains behind_event k → Contains (keys_noted f) k
  past_event k c = Contains-append_right (event_noted (stores f) f.event) behind_event k c

  past_end : (k : Key) → Contains behind_end k → Contains (keys_noted f) k
  past_end k c = past_event k (Contains-append_right (end_noted f.ended f.thread) behind_end k c)

  past_made : (k : Key) → Contains behind_made k → Contains (keys_noted f) k
  past_made k c = past_end k (Contains-append_right (made_keys f.allocated) behind_made k c)

  starts_listed : (t : ℕ) → starts f t ≡ true → Contains (keys_noted f) (Starts t)
  starts_listed t h = elim (or_cases (spawns f.event t) (f.ended && (f.thread == t)) h) [
    | inl e ↦ in_event (Starts t) (spawn_noted (stores f) f.event t e)
    | inr e ↦
        let p = and_parts f.ended (f.thread == t) e in
        past_event (Starts t) (Contains-append_left (end_noted f.ended f.thread) behind_end (Starts t) (ended_noted f.ended f.thread t p.0 p.1))
  ]

  -- the key of a lock, by whether some access stores
  lock_listed : (n : ℕ) (b : Bool) → stores f ≡ b → same_number (lock_of f.event) (Some n) ≡ true → Contains (keys_noted f) (lock_key b n)
  lock_listed n b is h = in_event (lock_key b n) (subst (λ (q : Bool). Contains (event_noted (stores f) f.event) (lock_key q n)) is (lock_noted (stores f) f.event n h))

  pub noted_listed : (k : Key) → has_row f k ≡ true → Contains (keys_noted f) k
  noted_listed (Lock n) h = let p = and_parts (same_number (lock_of f.event) (Some n)) (not (stores f)) h in lock_listed n false (not-true (stores f) p.1) p.0
  noted_listed (Storing n) h = let p = and_parts (same_number (lock_of f.event) (Some n)) (stores f) h in lock_listed n true p.1 p.0
  noted_listed Creation h = in_event Creation (creation_noted (stores f) f.event h)
  noted_listed Spawning h = in_event Spawning (spawning_noted (stores f) f.event h)
  noted_listed (Starts t) h = starts_listed t h
  noted_listed (Joins t) h = in_event (Joins t) (join_noted (stores f) f.event t h)
  noted_listed (Made a) h = past_end (Made a) (Contains-append_left (made_keys f.allocated) behind_made (Made a) (any_mapped same_id Made id_exact a f.allocated h))
  noted_listed (Touched a) h = past_made (Touched a) (Contains-append_left (touched_keys f.touched) (range_keys f.accesses) (Touched a) (any_mapped same_id Touched id_exact a f.touched h))
  noted_listed (Range r) h = past_made (Range r) (Contains-append_right (touched_keys f.touched) (range_keys f.accesses) (Range r) (any_mapped same_access Range access_exact r f.accesses h))
  noted_listed (Wakes t) h = absurd (false≢true h)

  -- ---- and each key of the list is one in whose rows the step is noted

  abbrev Notes : Key → Type 0
  Notes k = has_row f k ≡ true

  lock_each : (n : ℕ) (b : Bool) → stores f ≡ b → same_number (lock_of f.event) (Some n) ≡ true → has_row f (lock_key b n) ≡ true
  lock_each n true some h = and_from (same_number (lock_of f.event) (Some n)) (stores f) h some
  lock_each n false none h = and_from (same_number (lock_of f.event) (Some n)) (not (stores f)) h (not_from_false (stores f) none)

  acts : (e : Event) (n : ℕ) → f.event ≡ e → lock_of e ≡ Some n → Notes (lock_key (stores f) n)
  acts e n is of = lock_each n (stores f) refl (ap (λ d. same_number (lock_of d) (Some n)) is ∙ ap (λ o. same_number o (Some n)) of ∙ eq-eqb n n refl)

  event_each : (e : Event) → f.event ≡ e → All Notes (event_noted (stores f) e)
  event_each Quiet is = All-nil Notes
  event_each (CreateLock l) is =
      All-cons Notes (lock_key (stores f) l) (Creation ∷ []) (acts (CreateLock l) l is refl)
      (All-cons Notes Creation [] (ap creates is) (All-nil Notes))
  event_each (Acquire l) is = All-cons Notes (lock_key (stores f) l) [] (acts (Acquire l) l is refl) (All-nil Notes)
  event_each (Release l) is = All-cons Notes (lock_key (stores f) l) [] (acts (Release l) l is refl) (All-nil Notes)
  event_each (Spawn t) is =
      let here : spawns f.event t ≡ true = ap (λ d. spawns d t) is ∙ eq-eqb t t refl in
      All-cons Notes Spawning (Starts t ∷ []) (ap spawns_some is)
      (All-cons Notes (Starts t) [] (or_left (spawns f.event t) (f.ended && (f.thread == t)) here) (All-nil Notes))
  event_each (Join t) is = All-cons Notes (Joins t) [] (ap (λ d. joins d t) is ∙ eq-eqb t t refl) (All-nil Notes)

  end_each : (b : Bool) → f.ended ≡ b → All Notes (end_noted b f.thread)
  end_each true is = All-cons Notes (Starts f.thread) [] (or_right (spawns f.event f.thread) (f.ended && (f.thread == f.thread)) (and_from f.ended (f.thread == f.thread) is (eq-eqb f.thread f.thread refl))) (All-nil Notes)
  end_each false is = All-nil Notes

  pub each_noted : All Notes (keys_noted f)
  each_noted =
      All-append Notes (event_noted (stores f) f.event) behind_event (event_each f.event refl)
      (All-append Notes (end_noted f.ended f.thread) behind_end (end_each f.ended refl)
      (All-append Notes (made_keys f.allocated) behind_made (All-map Notes Made f.allocated (λ k d lt. list_any_at (same_id (get_or f.allocated k d)) f.allocated k d lt (same_id_refl (get_or f.allocated k d))))
      (All-append Notes (touched_keys f.touched) (range_keys f.accesses) (All-map Notes Touched f.touched (λ k d lt. list_any_at (same_id (get_or f.touched k d)) f.touched k d lt (same_id_refl (get_or f.touched k d))))
      (All-map Notes Range f.accesses (λ k d lt. list_any_at (same_access (get_or f.accesses k d)) f.accesses k d lt (same_access_refl (get_or f.accesses k d)))))))

-- ---- each key that a step asks, but a range, stands in the list

module _ (g : Footprint) where
  abbrev after_touched : List Key
  after_touched = made_keys g.freed ++ touched_keys g.freed

  abbrev after_end : List Key
  after_end = made_keys g.touched ++ after_touched

  abbrev after_event : List Key
  after_event = end_asked g.ended g.thread ++ after_end

  abbrev after_own : List Key
  after_own = event_asked g.event ++ after_event

  from_own : (k : Key) → Contains after_own k → Contains (keys_asked g) k
  from_own k c = Contains-append_right (Wakes g.thread ∷ []) after_own k c

  from_event : (k : Key) → Contains (event_asked g.event) k → Contains (keys_asked g) k
  from_event k c = from_own k (Contains-append_left (event_asked g.event) after_event k c)

  from_behind : (k : Key) → Contains after_event k → Contains (keys_asked g) k
  from_behind k c = from_own k (Contains-append_right (event_asked g.event) after_event k c)

  from_ids : (k : Key) → Contains after_end k → Contains (keys_asked g) k
  from_ids k c = from_behind k (Contains-append_right (end_asked g.ended g.thread) after_end k c)

  from_freed : (k : Key) → Contains after_touched k → Contains (keys_asked g) k
  from_freed k c = from_ids k (Contains-append_right (made_keys g.touched) after_touched k c)

  joins_listed : (t : ℕ) → starts g t ≡ true → Contains (keys_asked g) (Joins t)
  joins_listed t h = elim (or_cases (spawns g.event t) (g.ended && (g.thread == t)) h) [
    | inl e ↦ from_event (Joins t) (spawn_asked g.event t e)
    | inr e ↦
        let p = and_parts g.ended (g.thread == t) e in
        from_behind (Joins t) (Contains-append_left (end_asked g.ended g.thread) after_end (Joins t) (ended_asked g.ended g.thread t p.0 p.1))
  ]

  made_listed : (a : AllocId) → (list_any (same_id a) g.touched || list_any (same_id a) g.freed) ≡ true → Contains (keys_asked g) (Made a)
  made_listed a h = elim (or_cases (list_any (same_id a) g.touched) (list_any (same_id a) g.freed) h) [
    | inl e ↦ from_ids (Made a) (Contains-append_left (made_keys g.touched) after_touched (Made a) (any_mapped same_id Made id_exact a g.touched e))
    | inr e ↦ from_freed (Made a) (Contains-append_left (made_keys g.freed) (touched_keys g.freed) (Made a) (any_mapped same_id Made id_exact a g.freed e))
  ]

  pub asked_listed : (k : Key) → IsExact k → asks g k ≡ true → Contains (keys_asked g) k
  asked_listed (Lock n) x h = from_event (Lock n) (lock_asked g.event n h)
  asked_listed (Storing n) x h = from_event (Storing n) (storing_asked g.event n h)
  asked_listed Creation x h = from_event Creation (creation_asked g.event h)
  asked_listed Spawning x h = from_event Spawning (spawning_asked g.event h)
  asked_listed (Starts t) x h = from_event (Starts t) (join_asked g.event t h)
  asked_listed (Joins t) x h = joins_listed t h
  asked_listed (Made a) x h = made_listed a h
  asked_listed (Touched a) x h = from_freed (Touched a) (Contains-append_right (made_keys g.freed) (touched_keys g.freed) (Touched a) (any_mapped same_id Touched id_exact a g.freed h))
  asked_listed (Range r) x h = absurd x
  asked_listed (Wakes t) x h = (0, omega arith, ap Wakes (eqb-true g.thread t h))

-- ---- a key is a range or none

pub exact_or_range : (k : Key) → IsExact k ⊎ ((r : Access) × (k ≡ Range r))
exact_or_range (Range r) = inr (r, refl)
exact_or_range (Lock n) = inl tt
exact_or_range (Storing n) = inl tt
exact_or_range Creation = inl tt
exact_or_range Spawning = inl tt
exact_or_range (Starts t) = inl tt
exact_or_range (Joins t) = inl tt
exact_or_range (Made a) = inl tt
exact_or_range (Touched a) = inl tt
exact_or_range (Wakes t) = inl tt

-- a step that is noted under a range that races with g races with it
pub race_from_range : (f g : Footprint) (r : Access) → list_any (same_access r) f.accesses ≡ true → list_any (races r) g.accesses ≡ true → some_race f.accesses g.accesses ≡ true
unfolding some_race
race_from_range f g r h e =
    let c = Contains-from_any access_exact r f.accesses h in
    list_any_at (λ x. list_any (races x) g.accesses) f.accesses c.0 r c.1 (ap (λ (x : Access). list_any (races x) g.accesses) c.2 ∙ e)

-- ---- the places of the rows of a step's keys

pub places_from : (step : Footprint) (rows : List Row) (places : List ℕ) (keys : List Key) (thread : ℕ) → keys ≡ keys_noted step → thread ≡ step.thread → length places ≡ length keys → ((y : ℕ) (d : Key) → y < length keys → IsRowFor rows (slice_index places y) (slice_index_or keys y d) thread) → ArePlaces step rows places
places_from step rows places keys thread are of many each =
    record {
      each = λ y lt.
          let r = each y Creation (omega (arith, lt, many)) in
          (r.within, λ own. r.of_thread (ap is_shared (sym r.of_key) ∙ own) ∙ of, ap (has_row step) (r.of_key ∙ ap (λ (l : List Key). get_or l y Creation) are) ∙ each_noted step y Creation (let long = ap length are in omega (arith, lt, many, long)));
      all = λ key noted.
          let c = noted_listed step key noted in
          let long = ap length are in
          let lt : c.0 < length keys = omega (arith, c.1, long) in
          let r = each c.0 key lt in
          (c.0, omega (arith, lt, many), r.of_key ∙ ap (λ (l : List Key). get_or l c.0 key) are ∙ c.2);
    }
