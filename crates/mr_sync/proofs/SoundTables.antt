-- Each call on sound tables leaves sound tables.
use Rattle.std.proofs.Common.{◌≡◌, ◌≢◌, ℕ, zero, suc, refl, sym, ap, ◌∙◌, subst, List, [], ◌∷◌, ◌++◌, map, ◌⊎◌, inl, inr, Bool, true, false, cond, Option}
use Rattle.std.specs.Prelude.{slice_get, slice_set, Some, None, Result, Ok, Err, ◌==◌}
use Rattle.std.proofs.lemmas.Bool.{cases_eq, eq-eqb, eqb-true}
use Rattle.mr_base.specs.declared.reason.Reason.{Reason}
use Rattle.mr_base.specs.declared.reason.Reason.TheVariants.{NotHolder}
use Rattle.mr_base.specs.declared.thread.Status.{Status}
use Rattle.mr_base.specs.declared.thread.Status.TheVariants.{Enabled, OnJoin, OnLock, Ended}
use Rattle.mr_sync.specs.Tables.{Tables, acquired, any_waiting, any_waits, awaiting, created, ended, handed, holder_of, holding, joined, names_waiter, on_lock, over, released, spawned, start_tables, taken_by, trying, waits, wake}
use Rattle.mr_sync.proofs.Waiters.{waiter_counts}
use Rattle.mr_sync.specs.Sound.{IsSoundTables, StaySound}
use Rattle.mr_base.proofs.Lists.{set_there}

-- PLACES OF A LIST

-- what stands at j after a write at i was written, or stood there before
set_cases : {A : Type 0} (xs : List A) (i j : ℕ) (v w : A) → slice_get (slice_set xs i v) j ≡ Some w → (v ≡ w) ⊎ (slice_get xs j ≡ Some w)
set_cases [] i j v w h = cc
set_cases (x ∷ xs) zero zero v w h = inl (cc)
set_cases (x ∷ xs) zero (suc j) v w h = inr h
set_cases (x ∷ xs) (suc i) zero v w h = inr h
set_cases (x ∷ xs) (suc i) (suc j) v w h = set_cases xs i j v w h

push_cases : {A : Type 0} (xs : List A) (v : A) (j : ℕ) (w : A) → slice_get (xs ++ v ∷ []) j ≡ Some w → (v ≡ w) ⊎ (slice_get xs j ≡ Some w)
push_cases [] v zero w h = inl (cc)
push_cases [] v (suc j) w h = cc
push_cases (x ∷ xs) v zero w h = inr h
push_cases (x ∷ xs) v (suc j) w h = push_cases xs v j w h

-- THREADS THAT HAVEN'T ENDED

over_set : (xs : List Status) (i j : ℕ) (v : Status) → over (Some v) ≡ Some false → over (slice_get xs j) ≡ Some false → over (slice_get (slice_set xs i v) j) ≡ Some false
over_set [] i j v e h = h
over_set (x ∷ xs) zero zero v e h = e
over_set (x ∷ xs) zero (suc j) v e h = h
over_set (x ∷ xs) (suc i) zero v e h = h
over_set (x ∷ xs) (suc i) (suc j) v e h = over_set xs i j v e h

over_push : (xs ys : List Status) (j : ℕ) → over (slice_get xs j) ≡ Some false → over (slice_get (xs ++ ys) j) ≡ Some false
over_push [] ys j h = cc
over_push (x ∷ xs) ys zero h = h
over_push (x ∷ xs) ys (suc j) h = over_push xs ys j h

over_wake : (t : ℕ) (x : Status) → over (Some x) ≡ Some false → over (Some (wake t x)) ≡ Some false
over_wake t Enabled h = h
over_wake t (OnJoin k) h = elim (k == t) as (λ b. over (Some (cond b Enabled (OnJoin k))) ≡ Some false) [ true ↦ refl | false ↦ refl ]
over_wake t (OnLock k) h = h
over_wake t Ended h = h

over_woken : (t : ℕ) (xs : List Status) (j : ℕ) → over (slice_get xs j) ≡ Some false → over (slice_get (map (wake t) xs) j) ≡ Some false
over_woken t [] j h = h
over_woken t (x ∷ xs) zero h = over_wake t x h
over_woken t (x ∷ xs) (suc j) h = over_woken t xs j h

-- HOLDERS

held_set : (hs : List (Option ℕ)) (i l t h : ℕ) → taken_by (slice_get hs l) ≡ Some h → (k : ℕ) × (taken_by (slice_get (slice_set hs i (Some t)) l) ≡ Some k)
held_set [] i l t h e = cc
held_set (x ∷ xs) zero zero t h e = (t, refl)
held_set (x ∷ xs) zero (suc l) t h e = (h, e)
held_set (x ∷ xs) (suc i) zero t h e = (h, e)
held_set (x ∷ xs) (suc i) (suc l) t h e = held_set xs i l t h e

held_push : (hs ys : List (Option ℕ)) (l h : ℕ) → taken_by (slice_get hs l) ≡ Some h → taken_by (slice_get (hs ++ ys) l) ≡ Some h
held_push [] ys l h e = cc
held_push (x ∷ xs) ys zero h e = e
held_push (x ∷ xs) ys (suc l) h e = held_push xs ys l h e

-- WHO STILL WAITS BEHIND AN END

lock_wake : (t l : ℕ) (x : Status) → wake t x ≡ OnLock l → x ≡ OnLock l
lock_wake t l Enabled h = h
lock_wake t l (OnJoin k) h = go (k == t) h
  where
    go : (b : Bool) → cond b Enabled (OnJoin k) ≡ OnLock l → OnJoin k ≡ OnLock l
    go true e = cc
    go false e = e
lock_wake t l (OnLock k) h = h
lock_wake t l Ended h = h

join_wake : (t u : ℕ) (x : Status) → wake t x ≡ OnJoin u → (x ≡ OnJoin u) × (u ≢ t)
join_wake t u Enabled h = cc
join_wake t u (OnJoin k) h = go (k == t) refl h
  where
    go : (b : Bool) → (k == t) ≡ b → cond b Enabled (OnJoin k) ≡ OnJoin u → (OnJoin k ≡ OnJoin u) × (u ≢ t)
    go true q e = cc
    go false q e = (e, λ z. let k_is : k ≡ t = cc in let yes = subst (λ v. (k == v) ≡ true) k_is (eq-eqb k k refl) in cc)
join_wake t u (OnLock k) h = cc
join_wake t u Ended h = cc

lock_woken : (t l : ℕ) (xs : List Status) (j : ℕ) → slice_get (map (wake t) xs) j ≡ Some (OnLock l) → slice_get xs j ≡ Some (OnLock l)
lock_woken t l [] j h = h
lock_woken t l (x ∷ xs) zero h = ap Some (lock_wake t l x (cc))
lock_woken t l (x ∷ xs) (suc j) h = lock_woken t l xs j h

join_woken : (t u : ℕ) (xs : List Status) (j : ℕ) → slice_get (map (wake t) xs) j ≡ Some (OnJoin u) → (slice_get xs j ≡ Some (OnJoin u)) × (u ≢ t)
join_woken t u [] j h = cc
join_woken t u (x ∷ xs) zero h = let r = join_wake t u x (cc) in (ap Some r.0, r.1)
join_woken t u (x ∷ xs) (suc j) h = join_woken t u xs j h

-- THE CALLS

-- what a call left
left_by : (b c : Bool) (s s' : Tables) → ◌≡◌ {A = Result (Bool × Tables) Reason} (Ok (b, s)) (Ok (c, s')) → s ≡ s'
left_by b c s s' h = let pair : ◌≡◌ {A = Bool × Tables} (b, s) (c, s') = cc in ap (λ (p : Bool × Tables). p.1) pair

module _ (s : Tables) (sound : IsSoundTables s) where
  spawn_sound : IsSoundTables (spawned s).1
  spawn_sound = record {
    locks = λ t l h. elim (push_cases s.statuses Enabled t (OnLock l) h) [ inl e ↦ cc | inr e ↦ sound.locks t l e ];
    joins = λ t u h. over_push s.statuses (Enabled ∷ []) u (elim (push_cases s.statuses Enabled t (OnJoin u) h) [ inl e ↦ cc | inr e ↦ sound.joins t u e ]);
  }

  create_sound : IsSoundTables (created s).1
  create_sound = record {
    locks = λ t l h. let old = sound.locks t l h in (old.0, held_push s.holders (None ∷ []) l old.0 old.1);
    joins = sound.joins;
  }

  take_sound : (t l : ℕ) → IsSoundTables (record s { holders = slice_set s.holders l (Some t) })
  take_sound t l = record {
    locks = λ t' l' h. let old = sound.locks t' l' h in held_set s.holders l l' t old.0 old.1;
    joins = sound.joins;
  }

  block_sound : (t l h : ℕ) → holder_of l s ≡ Some h → IsSoundTables (record s { statuses = slice_set s.statuses t (OnLock l) })
  block_sound t l h held = record {
    locks = λ t' l' g. elim (set_cases s.statuses t t' (OnLock l) (OnLock l') g) [
      | inl e ↦ let same : l ≡ l' = cc in (h, subst (λ k. holder_of k s ≡ Some h) same held)
      | inr e ↦ sound.locks t' l' e
    ];
    joins = λ t' u g. elim (set_cases s.statuses t t' (OnLock l) (OnJoin u) g) [ inl e ↦ cc | inr e ↦ over_set s.statuses t u (OnLock l) refl (sound.joins t' u e) ];
  }

  acquire_sound : (t l : ℕ) (s' : Tables) (b : Bool) → acquired t l s ≡ Ok (b, s') → IsSoundTables s'
  acquire_sound t l s' b h = go (slice_get s.holders l) refl h
    where
      go : (g : Option (Option ℕ)) → slice_get s.holders l ≡ g → trying t l g s ≡ Ok (b, s') → IsSoundTables s'
      go None q e = cc
      go (Some None) q e = subst IsSoundTables (left_by true b _ s' e) (take_sound t l)
      go (Some (Some k)) q e = subst IsSoundTables (left_by false b _ s' e) (block_sound t l k (ap taken_by q))

  free_sound : (l : ℕ) → any_waits l s ≡ false → IsSoundTables (record s { holders = slice_set s.holders l None })
  free_sound l none = record {
    locks = λ t l' h. elim (cases_eq l' l) [
      | inl e ↦ let some = waiter_counts l' s.statuses t (ap (on_lock l') h ∙ eq-eqb l' l' refl) in let some_here = subst (λ k. any_waiting k s.statuses ≡ true) e some in cc
      | inr e ↦ let old = sound.locks t l' h in (old.0, ap taken_by (set_there s.holders l l' None e) ∙ old.1)
    ];
    joins = sound.joins;
  }

  give_sound : (l u : ℕ) → IsSoundTables (record s { statuses = slice_set s.statuses u Enabled; holders = slice_set s.holders l (Some u) })
  give_sound l u = record {
    locks = λ t l' h. elim (set_cases s.statuses u t Enabled (OnLock l') h) [ inl e ↦ cc | inr e ↦ let old = sound.locks t l' e in held_set s.holders l l' u old.0 old.1 ];
    joins = λ t v h. elim (set_cases s.statuses u t Enabled (OnJoin v) h) [ inl e ↦ cc | inr e ↦ over_set s.statuses u v Enabled refl (sound.joins t v e) ];
  }

  hand_sound : (l : ℕ) (to : Option ℕ) → names_waiter l to s ≡ any_waits l s → IsSoundTables (handed l to s)
  hand_sound l None e = free_sound l (sym e)
  hand_sound l (Some u) e = go (waits l u s) e
    where
      go : (b : Bool) → b ≡ any_waits l s → IsSoundTables (cond b (record s { statuses = slice_set s.statuses u Enabled; holders = slice_set s.holders l (Some u) }) (record s { holders = slice_set s.holders l None }))
      go true q = give_sound l u
      go false q = free_sound l (sym q)

  release_sound : (t l : ℕ) (to : Option ℕ) (s' : Tables) → (holder_of l s ≡ Some t → names_waiter l to s ≡ any_waits l s) → released t l to s ≡ Ok s' → IsSoundTables s'
  release_sound t l to s' given h = go (slice_get s.holders l) refl h
    where
      held : (k : ℕ) → holder_of l s ≡ Some k → (b : Bool) → (k == t) ≡ b → cond b (Ok (handed l to s)) (Err NotHolder) ≡ Ok s' → IsSoundTables s'
      held k q true same e = let is : handed l to s ≡ s' = cc in subst IsSoundTables is (hand_sound l to (given (q ∙ ap Some (eqb-true k t same))))
      held k q false other e = cc

      go : (g : Option (Option ℕ)) → slice_get s.holders l ≡ g → holding t g (handed l to s) ≡ Ok s' → IsSoundTables s'
      go None q e = cc
      go (Some None) q e = cc
      go (Some (Some k)) q e = held k (ap taken_by q) (k == t) refl e

  wait_sound : (t u : ℕ) → over (slice_get s.statuses u) ≡ Some false → IsSoundTables (record s { statuses = slice_set s.statuses t (OnJoin u) })
  wait_sound t u runs = record {
    locks = λ t' l g. elim (set_cases s.statuses t t' (OnJoin u) (OnLock l) g) [ inl e ↦ cc | inr e ↦ sound.locks t' l e ];
    joins = λ t' u' g. over_set s.statuses t u' (OnJoin u) refl (elim (set_cases s.statuses t t' (OnJoin u) (OnJoin u') g) [
      | inl e ↦ let same : u ≡ u' = cc in subst (λ k. over (slice_get s.statuses k) ≡ Some false) same runs
      | inr e ↦ sound.joins t' u' e
    ]);
  }

  join_sound : (t u : ℕ) (s' : Tables) (b : Bool) → joined t u s ≡ Ok (b, s') → IsSoundTables s'
  join_sound t u s' b h = go (over (slice_get s.statuses u)) refl h
    where
      go : (g : Option Bool) → over (slice_get s.statuses u) ≡ g → awaiting t u g s ≡ Ok (b, s') → IsSoundTables s'
      go None q e = cc
      go (Some true) q e = subst IsSoundTables (left_by true b s s' e) sound
      go (Some false) q e = subst IsSoundTables (left_by false b _ s' e) (wait_sound t u q)

  end_sound : (t : ℕ) → IsSoundTables (ended t s).0
  end_sound t = record {
    locks = λ t' l g. elim (set_cases s.statuses t t' Ended (OnLock l) (lock_woken t l (slice_set s.statuses t Ended) t' g)) [ inl e ↦ cc | inr e ↦ sound.locks t' l e ];
    joins = λ t' u g.
        let waiting = join_woken t u (slice_set s.statuses t Ended) t' g in
        over_woken t (slice_set s.statuses t Ended) u (elim (set_cases s.statuses t t' Ended (OnJoin u) waiting.0) [ inl e ↦ cc | inr e ↦ ap over (set_there s.statuses t u Ended waiting.1) ∙ sound.joins t' u e ]);
  }

-- the one thread of the first tables waits for nothing
start_enabled : (t : ℕ) (x : Status) → slice_get start_tables.statuses t ≡ Some x → Enabled ≡ x
start_enabled zero x h = cc
start_enabled (suc t) x h = cc

pub stay_sound : StaySound
stay_sound = record {
  new = record { locks = λ t l h. let e = start_enabled t (OnLock l) h in cc; joins = λ t u h. let e = start_enabled t (OnJoin u) h in cc };
  spawn = spawn_sound;
  create = create_sound;
  acquire = λ t l s s' b enabled e sound. acquire_sound s sound t l s' b e;
  release = λ t l to s s' given e sound. release_sound s sound t l to s' given e;
  join = λ t u s s' b enabled e sound. join_sound s sound t u s' b e;
  end = λ t s enabled sound. end_sound s sound t;
}
