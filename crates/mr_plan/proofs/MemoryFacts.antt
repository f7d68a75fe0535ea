-- What is known of memory and of the tally at each moment of a step.
use Rattle.mr_plan.proofs.Common.{◌≡◌, ◌≢◌, ℕ, ◌+◌, ◌<◌, ◌≤◌, refl, sym, ap, ◌∙◌, subst, subst₂, append-nil, Option, List, [], ◌∷◌, ◌++◌, length, arith, ◌⊎◌, inl, inr, Some, None, Ok, true, false, Contains, Contains-append_left, Contains-push, Contains-push_cases, both_ways, same_Some, Access, AbstractByte, AllocId, Kind, Function, Heap, Stack, Static, Uninit, Pointer, Allocation, Memory, allocated, bytes_at, fresh, get_here, get_there, Check, Read, Refer, accessing, seeing, touching, Allocate, Free, MemoryQuery, MemoryReply, Modify, Reading, Write, memory_answer, next_id, number_bytes, Tally, seen_of, start_tally, with_seen, AtMemory, MemoryPlace, ReadsMemory, WritesMemory, in_memory}
use Rattle.std.proofs.lemmas.List.Elements.{Contains-append_cases}
use Rattle.std.proofs.lemmas.Bool.{false_from_ne_true, false≢true}
use Rattle.mr_base.proofs.ScriptSwaps.{IsKept}
use Rattle.std.specs.Prelude.{replicate}
use Rattle.std.proofs.Math.ListN.{length-replicate}
use Rattle.mr_mem.specs.Memory.{held}
use Rattle.std.specs.FinMap as fin
use Rattle.mr_plan.proofs.ElementLaws.{Contains-nil, Contains-one}
use Rattle.mr_plan.proofs.FreeLaws.{Frees, dead, free_live, frees}
use Rattle.mr_plan.proofs.Headers.{Lasting, lasting_same, lasting_then}
use Rattle.mr_plan.proofs.IdentityCases.{id_cases}
use Rattle.mr_plan.proofs.MemoryAnswers.{Modifies, Replaces, changes, check_went, free_went, load_went, modify_went, refer_went, stays, store_went, with_change, with_freed, with_load, with_made, with_store}
use Rattle.mr_plan.proofs.RangeChecks.{Gave, aligned_ok, empty, filled, gave, ranged, touching_none, touching_one}
use Rattle.mr_plan.proofs.StoreLaws.{put_one, rewritten, rewritten_size, stored_in, written_is}
use Rattle.mr_plan.proofs.WentLaws.{at_outcome}

-- ---- the facts

-- there is an allocation that has what this one keeps for good
pub record Stands (m : Memory) (id : AllocId) (a : Allocation) : Type 0 where
  pub alloc : Allocation
  pub there : fin.get m id ≡ Some alloc
  pub lasting : Lasting a alloc

-- it is there, and live
pub record IsLive (m : Memory) (id : AllocId) : Type 0 where
  pub alloc : Allocation
  pub there : fin.get m id ≡ Some alloc
  pub live : alloc.live ≡ true

-- it is there, and dead
pub record IsDead (m : Memory) (id : AllocId) : Type 0 where
  pub alloc : Allocation
  pub there : fin.get m id ≡ Some alloc
  pub dead : alloc.live ≡ false

-- an allocation was there before, and was live if it still is
pub record Before (m0 : Memory) (id : AllocId) (b : Allocation) : Type 0 where
  pub alloc : Allocation
  pub there : fin.get m0 id ≡ Some alloc
  pub lasting : Lasting alloc b
  pub lived : b.live ≡ true → alloc.live ≡ true

-- an allocation takes this range
pub record Ranged (m : Memory) (r : ℕ × ℕ) : Type 0 where
  pub id : AllocId
  pub alloc : Allocation
  pub there : fin.get m id ≡ Some alloc
  pub addr : alloc.addr ≡ r.0
  pub span : alloc.span ≡ r.1

-- there is an allocation
abbrev pub IsThere : Memory → AllocId → Type 0
IsThere m id = (a : Allocation) × (fin.get m id ≡ Some a)

-- it is noted as made, and so is its range, in which it has its bytes
abbrev pub IsMade : Tally → AllocId → Allocation → Type 0
IsMade n id b = Contains n.made id × Contains n.ranges (b.addr, b.span) × (length b.bytes ≤ b.span)

-- A step of thread t, which had made c allocations, began in the memory m0 and is in m with the notes n. Its identities are counted; allocations stay, with
-- what they keep for good, and each was made by it, with its range, or was there before; what is noted as made or as a range is there, and
-- what is noted as freed is dead; what it touched or freed is there, and was made by it or live before.
pub record MemoryFacts (m0 : Memory) (t c : ℕ) (m : Memory) (n : Tally) : Type 0 where
  pub thread : n.thread ≡ t
  pub counted : (id : AllocId) (a : Allocation) → fin.get m id ≡ Some a → id.thread ≡ t → id.count < n.count
  pub grew : c ≤ n.count
  pub stays : (id : AllocId) (a : Allocation) → fin.get m0 id ≡ Some a → Stands m id a
  pub from : (id : AllocId) (b : Allocation) → fin.get m id ≡ Some b → IsMade n id b ⊎ Before m0 id b
  pub made : (id : AllocId) → Contains n.made id → (id.thread ≡ t) × (c ≤ id.count) × IsThere m id
  pub ranges : (r : ℕ × ℕ) → Contains n.ranges r → Ranged m r
  pub freed : (id : AllocId) → Contains n.freed id → IsDead m id
  pub used : (id : AllocId) → Contains n.touched id ⊎ Contains n.freed id → IsThere m id × (Contains n.made id ⊎ IsLive m0 id)

-- ---- where they hold

-- a new allocation has its bytes in its range
pub fresh_fits : (kind : Kind) (size : ℕ) → length (replicate (held kind size) Uninit) ≤ size
fresh_fits Function size = omega arith
fresh_fits Heap size = let e = length-replicate size Uninit in omega arith
fresh_fits Stack size = let e = length-replicate size Uninit in omega arith
fresh_fits Static size = let e = length-replicate size Uninit in omega arith

-- what holds before the first query
pub start_facts : (m : Memory) (t c : ℕ) → ((id : AllocId) (a : Allocation) → fin.get m id ≡ Some a → id.thread ≡ t → id.count < c) → MemoryFacts m t c m (start_tally t c)
start_facts m t c counted = record {
  thread = refl;
  counted = counted;
  grew = omega arith;
  stays = λ id a e. record { alloc = a; there = e; lasting = lasting_same a };
  from = λ id b e. inr (record { alloc = b; there = e; lasting = lasting_same b; lived = λ l. l });
  made = λ id h. absurd (Contains-nil id h);
  ranges = λ r h. absurd (Contains-nil r h);
  freed = λ id h. absurd (Contains-nil id h);
  used = λ id h. elim h [ inl k ↦ absurd (Contains-nil id k) | inr k ↦ absurd (Contains-nil id k) ];
}

module _ (m0 : Memory) (t c : ℕ) (m : Memory) (n : Tally) (f : MemoryFacts m0 t c m n) where
  -- an allocation is changed
  module _ (id : AllocId) (a b : Allocation) (there : fin.get m id ≡ Some a) (lasting : Lasting a b) (lived : b.live ≡ true → a.live ≡ true) where
    now : (q : AllocId) → q ≡ id → fin.get (fin.insert m id b) q ≡ Some b
    now q e = ap (fin.get (fin.insert m id b)) e ∙ get_here m id b

    was : (q : AllocId) (x : Allocation) → fin.get m q ≡ Some x → q ≡ id → x ≡ a
    was q x h e = same_Some _ _ (sym h ∙ ap (fin.get m) e ∙ there)

    present : (q : AllocId) → IsThere m q → IsThere (fin.insert m id b) q
    present q p = elim (id_cases q id) [ inl e ↦ (b, now q e) | inr d ↦ (p.0, get_there m id b q d ∙ p.1) ]

    still : (q : AllocId) (x : Allocation) → Stands m q x → Stands (fin.insert m id b) q x
    still q x s = elim (id_cases q id) [
      | inl e ↦ record { alloc = b; there = now q e; lasting = lasting_then x a b (subst (Lasting x) (was q s.alloc s.there e) s.lasting) lasting }
      | inr d ↦ record { alloc = s.alloc; there = get_there m id b q d ∙ s.there; lasting = s.lasting }
    ]

    still_ranged : (r : ℕ × ℕ) → Ranged m r → Ranged (fin.insert m id b) r
    still_ranged r s = elim (id_cases s.id id) [
      | inl e ↦
          let same = was s.id s.alloc s.there e in
          record { id = s.id; alloc = b; there = now s.id e; addr = sym lasting.addr ∙ ap (λ (w : Allocation). w.addr) (sym same) ∙ s.addr; span = sym lasting.span ∙ ap (λ (w : Allocation). w.span) (sym same) ∙ s.span }
      | inr d ↦ record { id = s.id; alloc = s.alloc; there = get_there m id b s.id d ∙ s.there; addr = s.addr; span = s.span }
    ]

    still_dead : (q : AllocId) → IsDead m q → IsDead (fin.insert m id b) q
    still_dead q s = elim (id_cases q id) [
      | inl e ↦ record { alloc = b; there = now q e; dead = false_from_ne_true b.live (λ l. both_ways a.live (ap (λ (w : Allocation). w.live) (sym (was q s.alloc s.there e)) ∙ s.dead) (lived l)) }
      | inr d ↦ record { alloc = s.alloc; there = get_there m id b q d ∙ s.there; dead = s.dead }
    ]

    came_here : IsMade n id a ⊎ Before m0 id a → IsMade n id b ⊎ Before m0 id b
    came_here (inl k) = inl (
      k.0,
      subst (Contains n.ranges) (λ i. (lasting.addr i, lasting.span i)) k.1,
      let in_it = k.2 in let long = lasting.size in let takes = lasting.span in omega arith,
    )
    came_here (inr k) = inr (record { alloc = k.alloc; there = k.there; lasting = lasting_then k.alloc a b k.lasting lasting; lived = λ l. k.lived (lived l) })

    came : (q : AllocId) (x : Allocation) → fin.get (fin.insert m id b) q ≡ Some x → IsMade n q x ⊎ Before m0 q x
    came q x h = elim (id_cases q id) [
      | inl e ↦
          subst (λ w. IsMade n q w ⊎ Before m0 q w) (same_Some _ _ (sym (now q e) ∙ h))
          (subst (λ k. IsMade n k b ⊎ Before m0 k b) (sym e) (came_here (f.from id a there)))
      | inr d ↦ f.from q x (sym (get_there m id b q d) ∙ h)
    ]

    count_of : (q : AllocId) (x : Allocation) → fin.get (fin.insert m id b) q ≡ Some x → q.thread ≡ t → q.count < n.count
    count_of q x h r = elim (id_cases q id) [
      | inl e ↦ f.counted q a (ap (fin.get m) e ∙ there) r
      | inr d ↦ f.counted q x (sym (get_there m id b q d) ∙ h) r
    ]

    pub facts_edit : MemoryFacts m0 t c (fin.insert m id b) n
    facts_edit = record {
      thread = f.thread;
      counted = count_of;
      grew = f.grew;
      stays = λ q x h. still q x (f.stays q x h);
      from = came;
      made = λ q h. let k = f.made q h in (k.0, k.1, present q k.2);
      ranges = λ r h. still_ranged r (f.ranges r h);
      freed = λ q h. still_dead q (f.freed q h);
      used = λ q h. let k = f.used q h in (present q k.0, k.1);
    }

  -- what is live was made by the step or live before
  live_before : (id : AllocId) (a : Allocation) → fin.get m id ≡ Some a → a.live ≡ true → Contains n.made id ⊎ IsLive m0 id
  live_before id a h l = elim (f.from id a h) [ inl k ↦ inl k.0 | inr k ↦ inr (record { alloc = k.alloc; there = k.there; live = k.lived l }) ]

  -- a live allocation is touched
  module _ {X : Type 0} (p : Pointer) (len : ℕ) (none : X) (full : Allocation → X) (x : X) where
    touched_of : Gave m p len none full x → (id : AllocId) → Contains (touching p len) id → IsThere m id × (Contains n.made id ⊎ IsLive m0 id)
    touched_of (empty z e) id h = absurd (Contains-nil id (subst (λ l. Contains l id) (touching_none p len z) h))
    touched_of (filled q a ne w e) id h =
        let is : q ≡ id = Contains-one q id (subst (λ l. Contains l id) (touching_one p len q ne w.prov) h) in
        let there : fin.get m id ≡ Some a = subst (λ k. fin.get m k ≡ Some a) is w.there in
        ((a, there), live_before id a there w.range.live)

    used_of : Gave m p len none full x → (id : AllocId) → Contains (n.touched ++ touching p len) id ⊎ Contains n.freed id → IsThere m id × (Contains n.made id ⊎ IsLive m0 id)
    used_of g id (inr k) = f.used id (inr k)
    used_of g id (inl k) = elim (Contains-append_cases n.touched (touching p len) id k) [
      | inl j ↦ f.used id (inl j)
      | inr j ↦ touched_of g id j
    ]

    pub facts_touch : (accesses : List Access) → ranged m p len none full ≡ Ok x → MemoryFacts m0 t c m (with_seen n (seeing accesses (touching p len) (seen_of n)))
    facts_touch accesses h = record {
      thread = f.thread;
      counted = f.counted;
      grew = f.grew;
      stays = f.stays;
      from = f.from;
      made = f.made;
      ranges = f.ranges;
      freed = f.freed;
      used = used_of (gave m p len none full x h);
    }

  -- what is noted of accesses alone
  facts_noted : (accesses : List Access) → MemoryFacts m0 t c m (with_seen n (seeing accesses [] (seen_of n)))
  facts_noted accesses = record {
    thread = f.thread;
    counted = f.counted;
    grew = f.grew;
    stays = f.stays;
    from = f.from;
    made = f.made;
    ranges = f.ranges;
    freed = f.freed;
    used = λ id h. f.used id (elim h [ inl k ↦ inl (subst (λ l. Contains l id) (append-nil n.touched) k) | inr k ↦ inr k ]);
  }

  -- an allocation is dead, and noted as freed
  module _ (id : AllocId) (d : IsDead m id) (l : Contains n.made id ⊎ IsLive m0 id) where
    freed_of : (q : AllocId) → Contains (n.freed ++ id ∷ []) q → IsDead m q
    freed_of q h = elim (Contains-push_cases n.freed id q h) [ inl k ↦ f.freed q k | inr e ↦ subst (IsDead m) e d ]

    used_too : (q : AllocId) → Contains n.touched q ⊎ Contains (n.freed ++ id ∷ []) q → IsThere m q × (Contains n.made q ⊎ IsLive m0 q)
    used_too q (inl k) = f.used q (inl k)
    used_too q (inr k) = elim (Contains-push_cases n.freed id q k) [
      | inl j ↦ f.used q (inr j)
      | inr e ↦ subst (λ i. IsThere m i × (Contains n.made i ⊎ IsLive m0 i)) e ((d.alloc, d.there), l)
    ]

    facts_freed : MemoryFacts m0 t c m (with_freed id n)
    facts_freed = record {
      thread = f.thread;
      counted = f.counted;
      grew = f.grew;
      stays = f.stays;
      from = f.from;
      made = f.made;
      ranges = f.ranges;
      freed = freed_of;
      used = used_too;
    }

  -- a new allocation
  module _ (kind : Kind) (size align addr : ℕ) where
    abbrev new : Allocation
    new = fresh kind size align addr

    not_there : (a : Allocation) → fin.get m (next_id n) ≡ Some a → ⊥
    not_there a h = let k : n.count < n.count = f.counted (next_id n) a h f.thread in omega arith

    -- what is there is another
    other : (q : AllocId) (a : Allocation) → fin.get m q ≡ Some a → q ≢ next_id n
    other q a h = λ e. not_there a (ap (fin.get m) (sym e) ∙ h)

    kept : (q : AllocId) (a : Allocation) → fin.get m q ≡ Some a → fin.get (fin.insert m (next_id n) new) q ≡ Some a
    kept q a h = get_there m (next_id n) new q (other q a h) ∙ h

    here : fin.get (fin.insert m (next_id n) new) (next_id n) ≡ Some new
    here = get_here m (next_id n) new

    new_from : (q : AllocId) (x : Allocation) → fin.get (fin.insert m (next_id n) new) q ≡ Some x → IsMade (with_made size addr n) q x ⊎ Before m0 q x
    new_from q x h = elim (id_cases q (next_id n)) [
      | inl e ↦
          let is : new ≡ x = same_Some _ _ (sym (ap (fin.get (fin.insert m (next_id n) new)) e ∙ here) ∙ h) in
          inl (
            subst (Contains (n.made ++ next_id n ∷ [])) (sym e) (Contains-push n.made (next_id n)),
            subst (λ (w : Allocation). Contains (n.ranges ++ (addr, size) ∷ []) (w.addr, w.span)) is (Contains-push n.ranges (addr, size)),
            subst (λ (w : Allocation). length w.bytes ≤ w.span) is (fresh_fits kind size),
          )
      | inr d ↦ elim (f.from q x (sym (get_there m (next_id n) new q d) ∙ h)) [
        | inl k ↦ inl (Contains-append_left n.made (next_id n ∷ []) q k.0, Contains-append_left n.ranges ((addr, size) ∷ []) (x.addr, x.span) k.1, k.2)
        | inr k ↦ inr k
      ]
    ]

    new_counted : (q : AllocId) (x : Allocation) → fin.get (fin.insert m (next_id n) new) q ≡ Some x → q.thread ≡ t → q.count < n.count + 1
    new_counted q x h r = elim (id_cases q (next_id n)) [
      | inl e ↦ let k : q.count ≡ n.count = ap (λ (i : AllocId). i.count) e in omega arith
      | inr d ↦ let k : q.count < n.count = f.counted q x (sym (get_there m (next_id n) new q d) ∙ h) r in omega arith
    ]

    new_made : (q : AllocId) → Contains (n.made ++ next_id n ∷ []) q → (q.thread ≡ t) × (c ≤ q.count) × IsThere (fin.insert m (next_id n) new) q
    new_made q h = elim (Contains-push_cases n.made (next_id n) q h) [
      | inl k ↦ let j = f.made q k in (j.0, j.1, (j.2.0, kept q j.2.0 j.2.1))
      | inr e ↦ subst (λ i. (i.thread ≡ t) × (c ≤ i.count) × IsThere (fin.insert m (next_id n) new) i) e (f.thread, f.grew, (new, here))
    ]

    new_ranges : (r : ℕ × ℕ) → Contains (n.ranges ++ (addr, size) ∷ []) r → Ranged (fin.insert m (next_id n) new) r
    new_ranges r h = elim (Contains-push_cases n.ranges (addr, size) r h) [
      | inl k ↦ let j = f.ranges r k in record { id = j.id; alloc = j.alloc; there = kept j.id j.alloc j.there; addr = j.addr; span = j.span }
      | inr e ↦ record { id = next_id n; alloc = new; there = here; addr = ap (λ w. w.0) e; span = ap (λ w. w.1) e }
    ]

    facts_new : MemoryFacts m0 t c (allocated m (next_id n) kind size align addr) (with_made size addr n)
    facts_new = record {
      thread = f.thread;
      counted = new_counted;
      grew = let k = f.grew in omega arith;
      stays = λ q x h. let s = f.stays q x h in record { alloc = s.alloc; there = kept q s.alloc s.there; lasting = s.lasting };
      from = new_from;
      made = new_made;
      ranges = new_ranges;
      freed = λ q h. let s = f.freed q h in record { alloc = s.alloc; there = kept q s.alloc s.there; dead = s.dead };
      used = λ q h. let k = f.used q h in ((k.0.0, kept q k.0.0 k.0.1), elim k.1 [ inl j ↦ inl (Contains-append_left n.made (next_id n ∷ []) q j) | inr j ↦ inr j ]);
    }

-- bytes put into an allocation leave the facts
module _ (m0 : Memory) (t c : ℕ) (m : Memory) (n : Tally) (f : MemoryFacts m0 t c m n) where
  facts_stored : (p : Pointer) (ys : List AbstractByte) (after : Memory) → Gave m p (length ys) m (stored_in m p ys) after → MemoryFacts m0 t c after n
  facts_stored p ys after (empty z e) = subst (λ v. MemoryFacts m0 t c v n) e f
  facts_stored p ys after (filled id a ne w e) =
      subst (λ v. MemoryFacts m0 t c v n) (sym (ap (λ o. put_one m o (rewritten a p.addr ys)) w.prov) ∙ e)
      (facts_edit m0 t c m n f id a (rewritten a p.addr ys) w.there
      (record { addr = refl; span = refl; align = refl; kind = refl; size = sym (rewritten_size a p.addr ys w.range.from w.range.to) })
      (λ l. l))

  facts_ended : (p : Pointer) (kind : Kind) (size align : ℕ) (r : AllocId × Memory) → Frees m p kind size align r → MemoryFacts m0 t c r.1 (with_freed r.0 n)
  facts_ended p kind size align r e =
      let a = e.alloc in
      let edited = facts_edit m0 t c m n f e.id a (dead a) e.there (record { addr = refl; span = refl; align = refl; kind = refl; size = refl }) (λ l. absurd (false≢true l)) in
      let died : IsDead (fin.insert m e.id (dead a)) e.id = record { alloc = dead a; there = get_here m e.id (dead a); dead = refl } in
      subst (λ w. MemoryFacts m0 t c w.1 (with_freed w.0 n)) e.is
      (facts_freed m0 t c (fin.insert m e.id (dead a)) n edited e.id died (live_before m0 t c m n f e.id a e.there (free_live a p.addr kind size align e.allowed)))

-- a modification keeps them
module _ (m0 : Memory) (t c : ℕ) (p : Pointer) (size : ℕ) (m m' : Memory) (n n' : Tally) (f : MemoryFacts m0 t c m n) where
  facts_replaced : (put : Option ℕ) → MemoryFacts m0 t c m (with_load true p size n) → Replaces p size m n put m' n' → MemoryFacts m0 t c m' n'
  facts_replaced put loaded (stays none same noted) = subst₂ (MemoryFacts m0 t c) same noted loaded
  facts_replaced put loaded (changes k some wrote noted) =
      let ys = number_bytes size k in
      let ok = aligned_ok p size (ranged m p (length ys) m (stored_in m p ys)) m' (sym (written_is m p ys size) ∙ wrote) in
      let known = facts_noted m0 t c m (with_load true p size n) loaded (accessing true true p size) in
      subst (MemoryFacts m0 t c m') noted
      (facts_stored m0 t c m (with_change p size (with_load true p size n)) known p ys m' (gave m p (length ys) m (stored_in m p ys) m' ok.1))

  facts_modified : (change : ℕ → Option ℕ) (x : ℕ) → Modifies p size change m n x m' n' → MemoryFacts m0 t c m' n'
  facts_modified change x w =
      let ok = aligned_ok p size (ranged m p size [] (λ b. bytes_at b p.addr size)) w.bytes w.is_read in
      facts_replaced (change x) (facts_touch m0 t c m n f p size [] (λ b. bytes_at b p.addr size) w.bytes (accessing false true p size) ok.1) w.replaces

-- EACH QUERY TO MEMORY KEEPS THE FACTS
pub memory_facts : (m0 : Memory) (t c : ℕ) → IsKept MemoryQuery MemoryReply Memory Tally memory_answer MemoryPlace AtMemory in_memory ReadsMemory WritesMemory (MemoryFacts m0 t c)
memory_facts m0 t c (Reading (Check p len)) m m' n n' x f h =
    let a = check_went p len m m' n n' x h in
    at_outcome a.goes (λ y w. MemoryFacts m0 t c w.0 w.1) (facts_touch m0 t c m n f p len None (λ _. p.prov) a.result [] a.is)
memory_facts m0 t c (Reading (Refer p len)) m m' n n' x f h =
    let a = refer_went p len m m' n n' x h in
    at_outcome a.goes (λ y w. MemoryFacts m0 t c w.0 w.1) (facts_touch m0 t c m n f p len None (λ _. p.prov) a.result [] a.is)
memory_facts m0 t c (Reading (Read atomic p len align)) m m' n n' x f h =
    let a = load_went atomic p len align m m' n n' x h in
    let ok = aligned_ok p align (ranged m p len [] (λ b. bytes_at b p.addr len)) a.result a.is in
    at_outcome a.goes (λ y w. MemoryFacts m0 t c w.0 w.1) (facts_touch m0 t c m n f p len [] (λ b. bytes_at b p.addr len) a.result _ ok.1)
memory_facts m0 t c (Write atomic p ys align) m m' n n' x f h =
    let a = store_went atomic p ys align m m' n n' x h in
    let ok = aligned_ok p align (ranged m p (length ys) m (stored_in m p ys)) a.result (sym (written_is m p ys align) ∙ a.is) in
    at_outcome a.goes (λ y w. MemoryFacts m0 t c w.0 w.1)
    (facts_stored m0 t c m (with_store atomic p ys n) (facts_touch m0 t c m n f p (length ys) m (stored_in m p ys) a.result _ ok.1) p ys a.result
    (gave m p (length ys) m (stored_in m p ys) a.result ok.1))
memory_facts m0 t c (Modify p size change) m m' n n' x f h = facts_modified m0 t c p size m m' n n' f change x (modify_went p size m n change x m' n' h)
memory_facts m0 t c (Allocate kind size align addr) m m' n n' x f h = at_outcome h (λ y w. MemoryFacts m0 t c w.0 w.1) (facts_new m0 t c m n f kind size align addr)
memory_facts m0 t c (Free p kind size align) m m' n n' x f h =
    let a = free_went p kind size align m m' n n' x h in
    at_outcome a.goes (λ y w. MemoryFacts m0 t c w.0 w.1) (facts_ended m0 t c m n f p kind size align a.result (frees m p kind size align a.result a.is))
