-- Two steps, one directly behind the other, of which the later one neither depends on the earlier one nor was woken by it, are apart: neither
-- reads or writes what the other one writes.
use Rattle.mr_exchange.proofs.Common.{◌≡◌, ◌≢◌, ℕ, ◌<◌, refl, sym, ap, ◌∙◌, length, arith, ◌⊎◌, inl, inr, false, Any, Contains, both_ways, eq-eqb, or_left, or_right, same_Some, Access, AllocId, Join, Spawn, Allocation, depends, spawns, wakes, Footprint, Apart, Notes, foot_of, Query, Reply, Shared, answer, MemoryFacts, AreNewIn, ActsOn, At, EndsThread, Holder, InMemory, IsCreation, IsGoing, IsSpawn, LockCount, Over, Reads, Spot, ThreadCount, WaitsJoin, WaitsLock, Writes, at_spot, HasOneEvent}
use Rattle.mr_start.specs.PlanPlaces.{ByteAt, Covers, HeaderOf, StoresAt}
use Rattle.mr_start.proofs.PlanMemoryFacts.{IsDead, IsLive, IsThere}
use Rattle.mr_exchange.proofs.Editions.{evaluated}
use Rattle.mr_exchange.proofs.ElementTests.{any_element, any_from}
use Rattle.mr_exchange.proofs.FreeSteps.{IsFree, event_is, free_from, not_both_create, not_both_locks, not_both_spawn, not_conflicting, not_ended, not_shared, not_started, not_woken}
use Rattle.mr_exchange.proofs.LocalCalls.{local}
use Rattle.mr_exchange.proofs.StatusFacts.{StatusFacts}
use Rattle.mr_exchange.proofs.StepGrows.{growing, kept}

-- f is a step of thread t from s to s1, and g one of thread u from s1 to s2
module _ (edition : ℕ) (s s1 s2 : Shared) (t u ct cu : ℕ) (nf ng : Notes)
    (mf : MemoryFacts s.memory t ct s1.memory nf.tally) (mg : MemoryFacts s1.memory u cu s2.memory ng.tally)
    (sf : StatusFacts s.statuses t s1.statuses nf) (sg : StatusFacts s1.statuses u s2.statuses ng)
    (new : AreNewIn s1.memory u cu) (threads : t ≢ u) (is_thread : t < length s.statuses)
    (onef : HasOneEvent nf.events) (oneg : HasOneEvent ng.events)
    (asleep : wakes (foot_of edition s1.memory nf) u ≡ false) (independent : depends (foot_of edition s1.memory nf) (foot_of edition s2.memory ng) ≡ false) where
  abbrev f : Footprint
  f = foot_of edition s1.memory nf

  abbrev g : Footprint
  g = foot_of edition s2.memory ng

  free : IsFree f g
  free = free_from f g independent

  -- ---- memory

  -- the accesses of their evaluation are among those of their footprints
  of_f : (a : Access) → Contains nf.tally.accesses a → Contains f.accesses a
  of_f a h = evaluated edition s1.memory nf.tally a h

  of_g : (a : Access) → Contains ng.tally.accesses a → Contains g.accesses a
  of_g a h = evaluated edition s2.memory ng.tally a h

  -- what g makes wasn't there
  not_made : (id : AllocId) → Contains ng.tally.made id → IsThere s1.memory id → ⊥
  not_made id h p = let k = mg.made id h in let at_least = k.1 in let below = new id p.0 p.1 k.0 in omega arith

  not_live : (id : AllocId) → IsDead s1.memory id → IsLive s1.memory id → ⊥
  not_live id d l =
      let same : d.alloc ≡ l.alloc = same_Some d.alloc l.alloc (sym d.there ∙ l.there) in
      both_ways l.alloc.live (ap (λ (w : Allocation). w.live) (sym same) ∙ d.dead) l.live

  -- what f freed is dead, and g doesn't use it
  freed_unused : (id : AllocId) → Contains nf.tally.freed id → Contains ng.tally.touched id ⊎ Contains ng.tally.freed id → ⊥
  freed_unused id h k =
      let d = mf.freed id h in
      let used = mg.used id k in
      elim (used.1) [ inl m ↦ not_made id m (d.alloc, d.there) | inr l ↦ not_live id d l ]

  -- what f used is there
  used_there : (id : AllocId) → Contains nf.tally.touched id ⊎ Contains nf.tally.freed id → IsThere s1.memory id
  used_there id h = (mf.used id h).0

  made_there : (id : AllocId) → Contains nf.tally.made id → IsThere s1.memory id
  made_there id h = (mf.made id h).2

  stored_covered : (x : ℕ) → Any (StoresAt x) nf.tally.accesses → Any (Covers x) ng.tally.accesses → ⊥
  stored_covered x h k =
      let a = any_element (StoresAt x) nf.tally.accesses h in
      let b = any_element (Covers x) ng.tally.accesses k in
      not_conflicting f.accesses g.accesses free.apart x a.0 b.0 (of_f a.0 a.1) (of_g b.0 b.1) a.2.covers b.2 (or_left a.0.store b.0.store a.2.store)

  covered_stored : (x : ℕ) → Any (Covers x) nf.tally.accesses → Any (StoresAt x) ng.tally.accesses → ⊥
  covered_stored x h k =
      let a = any_element (Covers x) nf.tally.accesses h in
      let b = any_element (StoresAt x) ng.tally.accesses k in
      not_conflicting f.accesses g.accesses free.apart x a.0 b.0 (of_f a.0 a.1) (of_g b.0 b.1) a.2 b.2.covers (or_right a.0.store b.0.store b.2.store)

  both_stored : (x : ℕ) → Any (StoresAt x) nf.tally.accesses → Any (StoresAt x) ng.tally.accesses → ⊥
  both_stored x h k = stored_covered x h (k.0, k.1, k.2, k.3, k.4.covers)

  made_touched : (id : AllocId) → Contains nf.tally.made id → Contains ng.tally.touched id → ⊥
  made_touched id h k = not_shared nf.tally.made ng.tally.touched free.made_touched id h k

  made_freed : (id : AllocId) → Contains nf.tally.made id → Contains ng.tally.freed id → ⊥
  made_freed id h k = not_shared nf.tally.made ng.tally.freed free.made_freed id h k

  touched_freed : (id : AllocId) → Contains nf.tally.touched id → Contains ng.tally.freed id → ⊥
  touched_freed id h k = not_shared nf.tally.touched ng.tally.freed free.touched_freed id h k

  -- ---- locks and threads

  locks : (l : ℕ) → Any (ActsOn l) nf.events → Any (ActsOn l) ng.events → ⊥
  locks l h k = not_both_locks f.event g.event free.locks l (event_is (ActsOn l) nf.events onef h) (event_is (ActsOn l) ng.events oneg k)

  creations : Any IsCreation nf.events → Any IsCreation ng.events → ⊥
  creations h k = not_both_create f.event g.event free.creations (event_is IsCreation nf.events onef h) (event_is IsCreation ng.events oneg k)

  spawnings : Any IsSpawn nf.events → Any IsSpawn ng.events → ⊥
  spawnings h k = not_both_spawn f.event g.event free.spawnings (event_is IsSpawn nf.events onef h) (event_is IsSpawn ng.events oneg k)

  -- f started or ended a thread that g joins, and the other way round
  started_joined : (k : ℕ) → Contains nf.events (Spawn k) → Contains ng.events (Join k) → ⊥
  started_joined k h j = not_started f g.event k free.joined (oneg (Join k) j) (onef (Spawn k) h)

  ended_joined : (k : ℕ) → EndsThread nf k → Contains ng.events (Join k) → ⊥
  ended_joined k h j = not_ended f g.event k free.joined (oneg (Join k) j) h.0 h.1

  joined_started : (k : ℕ) → Contains nf.events (Join k) → Contains ng.events (Spawn k) → ⊥
  joined_started k h j = not_started g f.event k free.joins (onef (Join k) h) (oneg (Spawn k) j)

  joined_ended : (k : ℕ) → Contains nf.events (Join k) → EndsThread ng k → ⊥
  joined_ended k h j = not_ended g f.event k free.joins (onef (Join k) h) j.0 j.1

  -- the two threads differ
  threads_differ : (k : ℕ) → nf.tally.thread ≡ k → ng.tally.thread ≡ k → ⊥
  threads_differ k h j = threads (sym mf.thread ∙ h ∙ sym j ∙ mg.thread)

  -- f didn't start the thread of g
  started_ended : (k : ℕ) → Contains nf.events (Spawn k) → EndsThread ng k → ⊥
  started_ended k h j =
      let is : f.event ≡ Spawn u = onef (Spawn k) h ∙ ap Spawn (sym j.1 ∙ mg.thread) in
      both_ways (spawns f.event u) (not_woken f u asleep).1 (ap (λ e. spawns e u) is ∙ eq-eqb u u refl)

  -- g doesn't start the thread of f
  ended_started : (k : ℕ) → EndsThread nf k → Contains ng.events (Spawn k) → ⊥
  ended_started k h j =
      let past = sg.started k j in
      let more = sf.grew in
      let same : k ≡ t = sym h.1 ∙ mf.thread in
      omega arith

  -- ---- spot by spot

  first_reads : (o : Spot) → Reads nf o → Writes ng o → ⊥
  first_reads (InMemory (HeaderOf id)) r (inl w) = not_made id w (used_there id r)
  first_reads (InMemory (HeaderOf id)) (inl r) (inr w) = touched_freed id r w
  first_reads (InMemory (HeaderOf id)) (inr r) (inr w) = freed_unused id r (inr w)
  first_reads (InMemory (ByteAt id x)) r (inl w) = covered_stored x r.1 w.1
  first_reads (InMemory (ByteAt id x)) r (inr w) = not_made id w (used_there id (inl r.0))
  first_reads (Holder l) r w = locks l r w
  first_reads LockCount r w = creations r w
  first_reads ThreadCount r w = spawnings r w
  first_reads (Over k) r (inl w) = joined_started k r w
  first_reads (Over k) r (inr w) = joined_ended k r w
  first_reads (WaitsLock k l) r w = locks l r w
  first_reads (WaitsJoin k j) r (inl w) = ended_joined j r w.0
  first_reads (WaitsJoin k j) r (inr w) = threads_differ j r.1 w.1

  second_reads : (o : Spot) → Reads ng o → Writes nf o → ⊥
  second_reads (InMemory (HeaderOf id)) (inl r) (inl w) = made_touched id w r
  second_reads (InMemory (HeaderOf id)) (inr r) (inl w) = made_freed id w r
  second_reads (InMemory (HeaderOf id)) r (inr w) = freed_unused id w r
  second_reads (InMemory (ByteAt id x)) r (inl w) = stored_covered x w.1 r.1
  second_reads (InMemory (ByteAt id x)) r (inr w) = made_touched id w r.0
  second_reads (Holder l) r w = locks l w r
  second_reads LockCount r w = creations w r
  second_reads ThreadCount r w = spawnings w r
  second_reads (Over k) r (inl w) = started_joined k w r
  second_reads (Over k) r (inr w) = ended_joined k w r
  second_reads (WaitsLock k l) r w = locks l w r
  second_reads (WaitsJoin k j) r (inl w) = joined_ended j w.0 r
  second_reads (WaitsJoin k j) r (inr w) = threads_differ j w.1 r.1

  both_write : (o : Spot) → Writes nf o → Writes ng o → ⊥
  both_write (InMemory (HeaderOf id)) (inl h) (inl k) = not_made id k (made_there id h)
  both_write (InMemory (HeaderOf id)) (inl h) (inr k) = made_freed id h k
  both_write (InMemory (HeaderOf id)) (inr h) (inl k) = not_made id k (used_there id (inr h))
  both_write (InMemory (HeaderOf id)) (inr h) (inr k) = freed_unused id h (inr k)
  both_write (InMemory (ByteAt id x)) (inl h) (inl k) = both_stored x h.1 k.1
  both_write (InMemory (ByteAt id x)) (inl h) (inr k) = not_made id k (used_there id (inl h.0))
  both_write (InMemory (ByteAt id x)) (inr h) (inl k) = made_touched id h k.0
  both_write (InMemory (ByteAt id x)) (inr h) (inr k) = not_made id k (made_there id h)
  both_write (Holder l) h k = locks l h k
  both_write LockCount h k = creations h k
  both_write ThreadCount h k = spawnings h k
  both_write (Over j) (inl h) (inl k) = spawnings (any_from IsSpawn nf.events (Spawn j) h tt) (any_from IsSpawn ng.events (Spawn j) k tt)
  both_write (Over j) (inl h) (inr k) = started_ended j h k
  both_write (Over j) (inr h) (inl k) = ended_started j h k
  both_write (Over j) (inr h) (inr k) = threads_differ j h.1 k.1
  both_write (WaitsLock j l) h k = locks l h k
  both_write (WaitsJoin j i) (inl h) (inl k) = threads_differ j h.1 k.1
  both_write (WaitsJoin j i) (inl h) (inr k) = joined_ended i h.0 k
  both_write (WaitsJoin j i) (inr h) (inl k) = ended_joined i h k.0
  both_write (WaitsJoin j i) (inr h) (inr k) = threads_differ i h.1 k.1

  -- WHAT IS INDEPENDENT IS APART
  pub apart_steps : Apart Query Reply Shared Notes answer Spot At at_spot Reads Writes IsGoing local growing kept nf ng
  apart_steps = record { first_reads = first_reads; second_reads = second_reads; both_write = both_write }
