-- What a step is free of that doesn't depend on an earlier one, and wasn't woken by it: the tests, one by one.
use Rattle.mr_exchange.proofs.Common.{◌≡◌, ℕ, ◌+◌, refl, sym, ap, ◌∙◌, subst, List, arith, Some, true, false, Any, Contains, ◌&&◌, ◌||◌, ◌==◌, nat_lt, list_any, and_from, both_ways, eq-eqb, lt-ltb, or_parts, some_conflict, Access, AllocId, Event, Acquire, CreateLock, Join, Quiet, Release, Spawn, depends, spawns, wakes, Footprint, event_of, ActsOn, IsCreation, IsSpawn, HasOneEvent}
use Rattle.mr_base.specs.Accesses.{conflicts, overlaps}
use Rattle.mr_event.specs.Footprints.{both_create, both_spawn, joins_of, lock_of, same_lock, same_number, share_id}
use Rattle.mr_start.specs.PlanPlaces.{Covers}
use Rattle.mr_base.specs.Identities.{same_id}
use Rattle.mr_exchange.proofs.ElementTests.{any_element, none_passes}

-- ---- the tests

-- g doesn't depend on f, test by test
pub record IsFree (f g : Footprint) : Type 0 where
  pub locks : same_lock f.event g.event ≡ false
  pub creations : both_create f.event g.event ≡ false
  pub spawnings : both_spawn f.event g.event ≡ false
  pub joined : joins_of f g.event ≡ false
  pub joins : joins_of g f.event ≡ false
  pub made_touched : share_id f.allocated g.touched ≡ false
  pub made_freed : share_id f.allocated g.freed ≡ false
  pub touched_freed : share_id f.touched g.freed ≡ false
  pub apart : some_conflict f.accesses g.accesses ≡ false

-- THE NINE TESTS, where there is no dependence
pub free_from : (f g : Footprint) → depends f g ≡ false → IsFree f g
unfolding depends
free_from f g h =
    let nine = or_parts _ _ h in
    let eight = or_parts _ _ nine.0 in
    let seven = or_parts _ _ eight.0 in
    let six = or_parts _ _ seven.0 in
    let five = or_parts _ _ six.0 in
    let four = or_parts _ _ five.0 in
    let three = or_parts _ _ four.0 in
    let two = or_parts _ _ three.0 in
    record {
      locks = two.0;
      creations = two.1;
      spawnings = three.1;
      joined = four.1;
      joins = five.1;
      made_touched = six.1;
      made_freed = seven.1;
      touched_freed = eight.1;
      apart = nine.1;
    }

-- a thread that a step doesn't wake isn't among those that it woke, and the step doesn't start it
pub not_woken : (f : Footprint) (u : ℕ) → wakes f u ≡ false → (Contains f.woken u → ⊥) × (spawns f.event u ≡ false)
unfolding wakes
not_woken f u h =
    let parts = or_parts (list_any (λ t. t == u) f.woken) (spawns f.event u) h in
    (λ c. both_ways (u == u) (none_passes (λ t. t == u) f.woken parts.0 u c) (eq-eqb u u refl), parts.1)

-- ---- events

-- where all events are one, it is so of this one
pub event_is : (P : Event → Type 0) (es : List Event) → HasOneEvent es → Any P es → P (event_of es)
event_is P es one h = let a = any_element P es h in subst P (sym (one a.0 a.1)) a.2

-- what the events are
lock_is : (l : ℕ) (e : Event) → ActsOn l e → lock_of e ≡ Some l
lock_is l (CreateLock k) h = ap Some h
lock_is l (Acquire k) h = ap Some h
lock_is l (Release k) h = ap Some h
lock_is l (Spawn t) h = absurd h
lock_is l (Join t) h = absurd h
lock_is l Quiet h = absurd h

creation_is : (e : Event) → IsCreation e → (l : ℕ) × (e ≡ CreateLock l)
creation_is (CreateLock k) h = (k, refl)
creation_is (Acquire k) h = absurd h
creation_is (Release k) h = absurd h
creation_is (Spawn t) h = absurd h
creation_is (Join t) h = absurd h
creation_is Quiet h = absurd h

spawn_is : (e : Event) → IsSpawn e → (t : ℕ) × (e ≡ Spawn t)
spawn_is (CreateLock k) h = absurd h
spawn_is (Acquire k) h = absurd h
spawn_is (Release k) h = absurd h
spawn_is (Spawn t) h = (t, refl)
spawn_is (Join t) h = absurd h
spawn_is Quiet h = absurd h

-- not both act on a lock, both create one, or both start a thread
pub not_both_locks : (d e : Event) → same_lock d e ≡ false → (l : ℕ) → ActsOn l d → ActsOn l e → ⊥
not_both_locks d e h l p q = both_ways (same_lock d e) h ((λ i. same_number (lock_is l d p i) (lock_is l e q i)) ∙ eq-eqb l l refl)

pub not_both_create : (d e : Event) → both_create d e ≡ false → IsCreation d → IsCreation e → ⊥
not_both_create d e h p q =
    let a = creation_is d p in
    let b = creation_is e q in
    both_ways (both_create d e) h (λ i. both_create (a.1 i) (b.1 i))

pub not_both_spawn : (d e : Event) → both_spawn d e ≡ false → IsSpawn d → IsSpawn e → ⊥
not_both_spawn d e h p q =
    let a = spawn_is d p in
    let b = spawn_is e q in
    both_ways (both_spawn d e) h (λ i. both_spawn (a.1 i) (b.1 i))

-- where f has nothing to do with a thread that the event joins: it doesn't start it, and doesn't end it
module _ (f : Footprint) (e : Event) (k : ℕ) (h : joins_of f e ≡ false) (is : e ≡ Join k) where
  parts : (spawns f.event k ≡ false) × ((f.ended && (f.thread == k)) ≡ false)
  parts = or_parts (spawns f.event k) (f.ended && (f.thread == k)) (ap (joins_of f) (sym is) ∙ h)

  pub not_started : f.event ≡ Spawn k → ⊥
  not_started s = both_ways (spawns f.event k) parts.0 (ap (λ d. spawns d k) s ∙ eq-eqb k k refl)

  pub not_ended : f.ended ≡ true → f.thread ≡ k → ⊥
  not_ended ended thread = both_ways (f.ended && (f.thread == k)) parts.1 (and_from f.ended (f.thread == k) ended (eq-eqb f.thread k thread))

-- ---- memory

-- no allocation stands in both lists
pub not_shared : (xs ys : List AllocId) → share_id xs ys ≡ false → (id : AllocId) → Contains xs id → Contains ys id → ⊥
not_shared xs ys h id p q =
    both_ways (same_id id id)
    (none_passes (same_id id) ys (none_passes (λ x. list_any (same_id x) ys) xs h id p) id q)
    (and_from (id.thread == id.thread) (id.count == id.count) (eq-eqb id.thread id.thread refl) (eq-eqb id.count id.count refl))

-- two accesses at one address, of which one is a store
conflict_at : (x : ℕ) (a b : Access) → Covers x a → Covers x b → (a.store || b.store) ≡ true → conflicts a b ≡ true
conflict_at x a b p q s =
    let low = p.from in
    let high = p.to in
    let low' = q.from in
    let high' = q.to in
    and_from (a.store || b.store) (overlaps a b) s
    (and_from (nat_lt 0 a.len) _ (lt-ltb 0 a.len (omega arith))
    (and_from (nat_lt 0 b.len) _ (lt-ltb 0 b.len (omega arith))
    (and_from (nat_lt a.addr (b.addr + b.len)) (nat_lt b.addr (a.addr + a.len)) (lt-ltb a.addr (b.addr + b.len) (omega arith)) (lt-ltb b.addr (a.addr + a.len) (omega arith)))))

-- no two accesses with an address in common, of which one is a store
pub not_conflicting : (xs ys : List Access) → some_conflict xs ys ≡ false → (x : ℕ) (a b : Access) → Contains xs a → Contains ys b → Covers x a → Covers x b → (a.store || b.store) ≡ true → ⊥
unfolding some_conflict
not_conflicting xs ys h x a b p q ca cb s =
    both_ways (conflicts a b) (none_passes (conflicts a) ys (none_passes (λ w. list_any (conflicts w) ys) xs h a p) b q) (conflict_at x a b ca cb s)
