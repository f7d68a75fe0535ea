-- Picks break no rule exactly where they meet the asks, and what the picks of neighbouring entries have to do with one another.
use Rattle.mr_exchange.proofs.Common.{◌≡◌, ◌≢◌, ℕ, ◌+◌, refl, sym, ap, ◌∙◌, subst, List, [], ◌∷◌, arith, ◌⊎◌, inl, inr, Bool, true, false, cond, Option, Some, None, Contains, ◌&&◌, nat_lt, slice_get, AllocId, Status, Memory, Range, Ranges, ranges_of, Address, Waiter, on_lock, Tally, else_fault, fault, picks_fault, Contains-nil, MemoryFacts, AreNewIn, Exchanged, Meets, MeetsAfter, addresses}
use Rattle.mr_base.specs.Pairs.{is_meeting}
use Rattle.mr_mem.specs.declared.fault.PickFault.{PickFault}
use Rattle.mr_mem.specs.declared.fault.PickFault.TheVariants.{BadAddress, Reused}
use Rattle.mr_mem.specs.Memory.{first_overlapped, is_bad_address, range_fault, reused, with_range}
use Rattle.mr_sched.specs.declared.schedule.Ask.{Ask}
use Rattle.mr_start.specs.PlanLegal.{Fault, address_fault}
use Rattle.mr_start.proofs.PlanLegalLaws.{no_faults}
use Rattle.mr_start.proofs.PlanMemoryFacts.{Ranged}
use Rattle.mr_exchange.specs.Meets.{AreApart, AreNew, AreWaiting, IsApartFrom, IsClear, IsTaken, TakesAlso, TakesOnly, ranges_after, waiters}
use Rattle.mr_mem.proofs.IndexLaws.{not_reused}
use Rattle.mr_exchange.proofs.ElementTests.{front_cases, here, there}
use Rattle.mr_exchange.proofs.RangeLists.{put_from, put_has, put_keeps, range_from, range_there}
use Rattle.mr_sched.specs.declared.rule.ScheduleRule.TheVariants as rule

-- ---- ranges apart

and_turned : (a b c d : Bool) → (a && (b && (c && d))) ≡ false → (b && (a && (d && c))) ≡ false
and_turned true true true true h = h
and_turned true true true false h = refl
and_turned true true false true h = refl
and_turned true true false false h = refl
and_turned true false c d h = refl
and_turned false true c d h = refl
and_turned false false c d h = refl

-- being apart goes both ways
pub apart_back : (r q : ℕ × ℕ) → AreApart r q → AreApart q r
apart_back r q h = and_turned (nat_lt 0 r.1) (nat_lt 0 q.1) (nat_lt r.0 (q.0 + q.1)) (nat_lt q.0 (r.0 + r.1)) h

pub clear_taken : (rs : Ranges) (r q : ℕ × ℕ) → IsClear rs r → IsTaken rs q → AreApart r q
clear_taken rs r q c h = c h.0 (record { addr = q.0; size = q.1 }) h.1

pub clear_from : (rs : Ranges) (r : ℕ × ℕ) → ((q : ℕ × ℕ) → IsTaken rs q → AreApart r q) → IsClear rs r
clear_from rs r f id q h = f (q.addr, q.size) (id, h)

-- ---- one pick

none_overlapped : (rs : Ranges) (addr size : ℕ) → first_overlapped addr size rs ≡ None → IsClear rs (addr, size)
none_overlapped [] addr size h id q c = absurd (Contains-nil (id, q) c)
none_overlapped (r ∷ rs) addr size h id q c =
    let k = by_test (is_meeting addr size r.1.addr r.1.size) h in
    elim (front_cases r rs (id, q) c) [
      | inl e ↦ subst (λ (w : AllocId × Range). is_meeting addr size w.1.addr w.1.size ≡ false) e k.0
      | inr m ↦ none_overlapped rs addr size k.1 id q m
    ]
  where
    by_test : (b : Bool) → cond b (Some r.0) (first_overlapped addr size rs) ≡ None → (b ≡ false) × (first_overlapped addr size rs ≡ None)
    by_test true e = absurd (cc)
    by_test false e = (refl, e)

clear_overlapped : (rs : Ranges) (addr size : ℕ) → IsClear rs (addr, size) → first_overlapped addr size rs ≡ None
clear_overlapped [] addr size c = refl
clear_overlapped (r ∷ rs) addr size c =
    ap (λ b. cond b (Some r.0) (first_overlapped addr size rs)) (c r.0 r.1 (here r rs))
    ∙ clear_overlapped rs addr size (λ id q h. c id q (there r rs (id, q) h))

-- an address may be picked exactly where it isn't bad and its range is clear
pub lawful_from : (rs : Ranges) (addr size align : ℕ) → range_fault rs addr size align ≡ None → (is_bad_address addr size align ≡ false) × IsClear rs (addr, size)
unfolding range_fault
lawful_from rs addr size align h = by_test (is_bad_address addr size align) h
  where
    by_test : (b : Bool) → cond b (Some BadAddress) (reused (first_overlapped addr size rs)) ≡ None → (b ≡ false) × IsClear rs (addr, size)
    by_test true e = absurd (cc)
    by_test false e = (refl, none_overlapped rs addr size (not_reused _ e))

pub lawful_to : (rs : Ranges) (addr size align : ℕ) → is_bad_address addr size align ≡ false → IsClear rs (addr, size) → range_fault rs addr size align ≡ None
unfolding range_fault
lawful_to rs addr size align b c =
    ap (λ x. cond x (Some BadAddress) (reused (first_overlapped addr size rs))) b ∙ ap reused (clear_overlapped rs addr size c)

no_address_fault : (o : Option PickFault) → address_fault o ≡ None → o ≡ None
no_address_fault None h = refl
no_address_fault (Some BadAddress) h = absurd (cc)
no_address_fault (Some (Reused id)) h = absurd (cc)

-- ---- one range more

abbrev own : ℕ → ℕ → AllocId
own t count = record { thread = t; count = count }

module _ (rs : Ranges) (t count addr size : ℕ) where
  -- nothing more is taken than the new range
  pub with_from : (q : ℕ × ℕ) → IsTaken (with_range rs (own t count) addr size) q → IsTaken rs q ⊎ (q ≡ (addr, size))
  with_from q h =
      elim (put_from (own t count) (record { addr = addr; size = size }) rs (h.0, record { addr = q.0; size = q.1 }) h.1) [
        | inl e ↦ inr (ap (λ (w : AllocId × Range). (w.1.addr, w.1.size)) e)
        | inr k ↦ inl (h.0, k)
      ]

  pub with_has : IsTaken (with_range rs (own t count) addr size) (addr, size)
  with_has = (own t count, put_has (own t count) (record { addr = addr; size = size }) rs)

  module _ (new : AreNew rs t count) where
    -- under a new identity, what was taken stays taken
    pub with_keeps : (q : ℕ × ℕ) → IsTaken rs q → IsTaken (with_range rs (own t count) addr size) q
    with_keeps q h =
        let other : h.0 ≢ own t count = λ e.
        let n = new h.0 (record { addr = q.0; size = q.1 }) h.1 (ap (λ (w : AllocId). w.thread) e) in
        let c : h.0.count ≡ count = ap (λ (w : AllocId). w.count) e in omega arith in
        (h.0, put_keeps (own t count) (record { addr = addr; size = size }) rs (h.0, record { addr = q.0; size = q.1 }) other h.1)

    pub with_new : AreNew (with_range rs (own t count) addr size) t (count + 1)
    with_new id q h e =
        elim (put_from (own t count) (record { addr = addr; size = size }) rs (id, q) h) [
          | inl k ↦ let c : id.count ≡ count = ap (λ (w : AllocId × Range). w.0.count) k in omega arith
          | inr k ↦ let n = new id q k e in omega arith
        ]

-- ---- no fault exactly where the picks meet the asks

lock_test : (b : Bool) (o : Option Fault) → cond b o (fault rule.NotWaiting) ≡ None → (b ≡ true) × (o ≡ None)
lock_test true o h = (refl, h)
lock_test false o h = absurd (cc)

-- rs' has at least the ranges of rs and es
pub meets_from : (ss : List Status) (rs : Ranges) (es : List (ℕ × ℕ)) (rs' : Ranges) (t count : ℕ) (asks : List Ask) (picks : List ℕ)
    → ((q : ℕ × ℕ) → IsTaken rs q → IsTaken rs' q) → ((q : ℕ × ℕ) → Contains es q → IsTaken rs' q) → AreNew rs' t count
    → picks_fault ss rs' t count asks picks ≡ None → MeetsAfter ss rs es asks picks
meets_from ss rs es rs' t count [] [] k l new h = tt
meets_from ss rs es rs' t count [] (pick ∷ picks) k l new h = absurd (cc)
meets_from ss rs es rs' t count (ask ∷ asks) [] k l new h = absurd (cc)
meets_from ss rs es rs' t count (Address size align ∷ asks) (addr ∷ picks) k l new h =
    let p = no_faults (address_fault (range_fault rs' addr size align)) _ h in
    let a = lawful_from rs' addr size align (no_address_fault _ p.0) in (
      a.0,
      clear_from rs (addr, size) (λ q z. clear_taken rs' (addr, size) q a.1 (k q z)),
      λ q z. clear_taken rs' (addr, size) q a.1 (l q z),
      meets_from ss rs ((addr, size) ∷ es) (with_range rs' (own t count) addr size) t (count + 1) asks picks
          (λ q z. with_keeps rs' t count addr size new q (k q z))
          (λ q z. elim (front_cases (addr, size) es q z) [
            | inl e ↦ subst (IsTaken (with_range rs' (own t count) addr size)) e (with_has rs' t count addr size)
            | inr m ↦ with_keeps rs' t count addr size new q (l q m)
          ])
          (with_new rs' t count addr size new) p.1,
    )
meets_from ss rs es rs' t count (Waiter lock ∷ asks) (thread ∷ picks) k l new h =
    let p = lock_test (on_lock lock (slice_get ss thread)) _ h in
    (p.0, meets_from ss rs es rs' t count asks picks k l new p.1)

-- rs' has at most the ranges of rs and es
pub meets_to : (ss : List Status) (rs : Ranges) (es : List (ℕ × ℕ)) (rs' : Ranges) (t count : ℕ) (asks : List Ask) (picks : List ℕ)
    → ((q : ℕ × ℕ) → IsTaken rs' q → IsTaken rs q ⊎ Contains es q)
    → MeetsAfter ss rs es asks picks → picks_fault ss rs' t count asks picks ≡ None
meets_to ss rs es rs' t count [] [] k m = refl
meets_to ss rs es rs' t count [] (pick ∷ picks) k m = absurd m
meets_to ss rs es rs' t count (ask ∷ asks) [] k m = absurd m
meets_to ss rs es rs' t count (Address size align ∷ asks) (addr ∷ picks) k m =
    let now : range_fault rs' addr size align ≡ None =
    lawful_to rs' addr size align m.0 (clear_from rs' (addr, size) (λ q z. elim (k q z) [
      | inl y ↦ clear_taken rs (addr, size) q m.1 y
      | inr y ↦ m.2 q y
    ])) in
    ap (λ o. else_fault (address_fault o) (picks_fault ss (with_range rs' (own t count) addr size) t (count + 1) asks picks)) now
    ∙ meets_to ss rs ((addr, size) ∷ es) (with_range rs' (own t count) addr size) t (count + 1) asks picks
    (λ q z. elim (with_from rs' t count addr size q z) [
      | inl y ↦ elim (k q y) [ inl x ↦ inl x | inr x ↦ inr (there (addr, size) es q x) ]
      | inr e ↦ inr (subst (Contains ((addr, size) ∷ es)) (sym e) (here (addr, size) es))
    ]) m.3
meets_to ss rs es rs' t count (Waiter lock ∷ asks) (thread ∷ picks) k m =
    ap (λ b. cond b (picks_fault ss rs' t count asks picks) (fault rule.NotWaiting)) m.0 ∙ meets_to ss rs es rs' t count asks picks k m.1

module _ (ss : List Status) (rs : Ranges) (t count : ℕ) (asks : List Ask) (picks : List ℕ) where
  -- WHERE NO RULE IS BROKEN THE PICKS MEET THE ASKS
  pub meets_of_legal : AreNew rs t count → picks_fault ss rs t count asks picks ≡ None → Meets ss rs asks picks
  meets_of_legal new h = meets_from ss rs [] rs t count asks picks (λ q z. z) (λ q z. absurd (Contains-nil q z)) new h

  -- WHERE THE PICKS MEET THE ASKS NO RULE IS BROKEN, whatever the identities
  pub legal_of_meets : Meets ss rs asks picks → picks_fault ss rs t count asks picks ≡ None
  legal_of_meets m = meets_to ss rs [] rs t count asks picks (λ q z. inl z) m

-- ---- what the picks meet, taken apart

-- each picked range is clear
pub meets_clear : (ss : List Status) (rs : Ranges) (es : List (ℕ × ℕ)) (asks : List Ask) (picks : List ℕ) → MeetsAfter ss rs es asks picks
    → (r : ℕ × ℕ) → Contains (addresses asks picks) r → IsClear rs r
meets_clear ss rs es [] [] m r h = absurd (Contains-nil r h)
meets_clear ss rs es [] (pick ∷ picks) m r h = absurd m
meets_clear ss rs es (ask ∷ asks) [] m r h = absurd m
meets_clear ss rs es (Address size align ∷ asks) (addr ∷ picks) m r h =
    elim (front_cases (addr, size) (addresses asks picks) r h) [
      | inl e ↦ subst (IsClear rs) e m.1
      | inr k ↦ meets_clear ss rs ((addr, size) ∷ es) asks picks m.3 r k
    ]
meets_clear ss rs es (Waiter lock ∷ asks) (thread ∷ picks) m r h = meets_clear ss rs es asks picks m.1 r h

-- each picked thread waits
pub meets_waiting : (ss : List Status) (rs : Ranges) (es : List (ℕ × ℕ)) (asks : List Ask) (picks : List ℕ) → MeetsAfter ss rs es asks picks
    → AreWaiting ss (waiters asks picks)
meets_waiting ss rs es [] [] m l w h = absurd (Contains-nil (l, w) h)
meets_waiting ss rs es [] (pick ∷ picks) m l w h = absurd m
meets_waiting ss rs es (ask ∷ asks) [] m l w h = absurd m
meets_waiting ss rs es (Address size align ∷ asks) (addr ∷ picks) m l w h = meets_waiting ss rs ((addr, size) ∷ es) asks picks m.3 l w h
meets_waiting ss rs es (Waiter lock ∷ asks) (thread ∷ picks) m l w h =
    elim (front_cases (lock, thread) (waiters asks picks) (l, w) h) [
      | inl e ↦ subst (λ (p : ℕ × ℕ). on_lock p.0 (slice_get ss p.1) ≡ true) e m.0
      | inr k ↦ meets_waiting ss rs es asks picks m.1 l w k
    ]

-- Picks that met the asks meet them among other ranges and statuses, where they are clear of the ranges and the threads wait.
pub meets_there : (ss ss' : List Status) (rs rs' : Ranges) (es : List (ℕ × ℕ)) (asks : List Ask) (picks : List ℕ)
    → ((r : ℕ × ℕ) → Contains (addresses asks picks) r → IsClear rs' r) → AreWaiting ss' (waiters asks picks)
    → MeetsAfter ss rs es asks picks → MeetsAfter ss' rs' es asks picks
meets_there ss ss' rs rs' es [] [] c w m = tt
meets_there ss ss' rs rs' es [] (pick ∷ picks) c w m = absurd m
meets_there ss ss' rs rs' es (ask ∷ asks) [] c w m = absurd m
meets_there ss ss' rs rs' es (Address size align ∷ asks) (addr ∷ picks) c w m = (
  m.0,
  c (addr, size) (here (addr, size) (addresses asks picks)),
  m.2,
  meets_there ss ss' rs rs' ((addr, size) ∷ es) asks picks (λ r h. c r (there (addr, size) (addresses asks picks) r h)) w m.3,
)
meets_there ss ss' rs rs' es (Waiter lock ∷ asks) (thread ∷ picks) c w m = (
  w lock thread (here (lock, thread) (waiters asks picks)),
  meets_there ss ss' rs rs' es asks picks c (λ l v h. w l v (there (lock, thread) (waiters asks picks) (l, v) h)) m.1,
)

-- a lock whose waiter was picked was asked for
pub waiters_asked : (asks : List Ask) (picks : List ℕ) (l w : ℕ) → Contains (waiters asks picks) (l, w) → Contains asks (Waiter l)
waiters_asked [] picks l w h = absurd (Contains-nil (l, w) h)
waiters_asked (ask ∷ asks) [] l w h = absurd (Contains-nil (l, w) h)
waiters_asked (Address size align ∷ asks) (addr ∷ picks) l w h = there (Address size align) asks (Waiter l) (waiters_asked asks picks l w h)
waiters_asked (Waiter lock ∷ asks) (thread ∷ picks) l w h =
    elim (front_cases (lock, thread) (waiters asks picks) (l, w) h) [
      | inl e ↦ subst (λ (p : ℕ × ℕ). Contains (Waiter lock ∷ asks) (Waiter p.0)) e (here (Waiter lock) asks)
      | inr k ↦ there (Waiter lock) asks (Waiter l) (waiters_asked asks picks l w k)
    ]

-- ---- other ranges, other statuses

module _ (ss : List Status) (rs rs' : Ranges) (asks : List Ask) (picks : List ℕ) (m : Meets ss rs asks picks) where
  -- among ranges each of which was taken, or is apart from all picks
  pub meets_more : ((q : ℕ × ℕ) → IsTaken rs' q → IsTaken rs q ⊎ IsApartFrom (addresses asks picks) q) → Meets ss rs' asks picks
  meets_more f =
      meets_there ss ss rs rs' [] asks picks
      (λ r h. clear_from rs' r (λ q k. elim (f q k) [
        | inl y ↦ clear_taken rs r q (meets_clear ss rs [] asks picks m r h) y
        | inr y ↦ apart_back q r (y r h)
      ]))
      (meets_waiting ss rs [] asks picks m) m

  -- among fewer ranges
  pub meets_fewer : ((q : ℕ × ℕ) → IsTaken rs' q → IsTaken rs q) → Meets ss rs' asks picks
  meets_fewer f = meets_more (λ q k. inl (f q k))

-- where the picked waiters wait
pub meets_waiters : (ss ss' : List Status) (rs : Ranges) (asks : List Ask) (picks : List ℕ) → AreWaiting ss' (waiters asks picks) → Meets ss rs asks picks → Meets ss' rs asks picks
meets_waiters ss ss' rs asks picks w m = meets_there ss ss' rs rs [] asks picks (meets_clear ss rs [] asks picks m) w m

-- where the threads that wait for a lock that is asked for are the same
pub still_waiting : (ss ss' : List Status) (rs : Ranges) (asks : List Ask) (picks : List ℕ)
    → ((l w : ℕ) → Contains asks (Waiter l) → on_lock l (slice_get ss w) ≡ on_lock l (slice_get ss' w)) → Meets ss rs asks picks → AreWaiting ss' (waiters asks picks)
still_waiting ss ss' rs asks picks same m l w h = sym (same l w (waiters_asked asks picks l w h)) ∙ meets_waiting ss rs [] asks picks m l w h

-- ---- the ranges behind an entry

pub after_only : (rs : Ranges) (t count : ℕ) (asks : List Ask) (picks : List ℕ) → TakesOnly rs (addresses asks picks) (ranges_after rs t count asks picks)
after_only rs t count [] picks q k = inl k
after_only rs t count (ask ∷ asks) [] q k = inl k
after_only rs t count (Address size align ∷ asks) (addr ∷ picks) q k =
    elim (after_only (with_range rs (own t count) addr size) t (count + 1) asks picks q k) [
      | inl y ↦ elim (with_from rs t count addr size q y) [
        | inl z ↦ inl z
        | inr e ↦ inr (subst (Contains ((addr, size) ∷ addresses asks picks)) (sym e) (here (addr, size) (addresses asks picks)))
      ]
      | inr y ↦ inr (there (addr, size) (addresses asks picks) q y)
    ]
after_only rs t count (Waiter lock ∷ asks) (thread ∷ picks) q k = after_only rs t count asks picks q k

-- ---- two neighbouring entries

-- the picks of an entry are apart from those of the one before it
pub neighbours_apart : (ss1 : List Status) (rs rs1 : Ranges) (asks : List Ask) (picks : List ℕ) (asks' : List Ask) (picks' : List ℕ) → TakesAlso rs (addresses asks picks) rs1
    → Meets ss1 rs1 asks' picks' → (r q : ℕ × ℕ) → Contains (addresses asks picks) r → Contains (addresses asks' picks') q → AreApart q r
neighbours_apart ss1 rs rs1 asks picks asks' picks' k m r q h j = clear_taken rs1 q r (meets_clear ss1 rs1 [] asks' picks' m q j) (k.1 r h)

-- THE TWO MAY BE EXCHANGED. rs1 and ss1 are the ranges and statuses behind the first, rs2 and ss2 those behind the second alone.
pub exchanged : (ss0 ss1 ss2 : List Status) (rs rs1 rs2 : Ranges) (asks : List Ask) (picks : List ℕ) (asks' : List Ask) (picks' : List ℕ)
    → TakesAlso rs (addresses asks picks) rs1 → TakesOnly rs (addresses asks' picks') rs2
    → AreWaiting ss0 (waiters asks' picks') → AreWaiting ss2 (waiters asks picks)
    → Meets ss0 rs asks picks → Meets ss1 rs1 asks' picks' → Exchanged ss0 ss2 rs rs2 asks picks asks' picks'
exchanged ss0 ss1 ss2 rs rs1 rs2 asks picks asks' picks' also only w w' m m' =
    let apart = neighbours_apart ss1 rs rs1 asks picks asks' picks' also m' in
    record {
      apart = apart;
      second = meets_waiters ss1 ss0 rs asks' picks' w (meets_fewer ss1 rs1 rs asks' picks' m' also.0);
      first = meets_waiters ss0 ss2 rs2 asks picks w' (meets_more ss0 rs rs2 asks picks m (λ q k. elim (only q k) [
        | inl y ↦ inl y
        | inr y ↦ inr (λ r h. apart r q h y)
      ]));
    }

-- ---- in memory

pub new_of_memory : (m : Memory) (t count : ℕ) → AreNewIn m t count → AreNew (ranges_of m) t count
new_of_memory m t count new id q h e = let f = range_from m id q h in new id f.0 f.1 e

pub taken_in : (m : Memory) (q : ℕ × ℕ) → IsTaken (ranges_of m) q → Ranged m q
taken_in m q h = let f = range_from m h.0 (record { addr = q.0; size = q.1 }) h.1 in record { id = h.0; alloc = f.0; there = f.1; addr = f.2; span = f.3 }

pub taken_of_memory : (m : Memory) (q : ℕ × ℕ) → Ranged m q → IsTaken (ranges_of m) q
taken_of_memory m q r = (r.id, subst (λ (w : Range). Contains (ranges_of m) (r.id, w)) (λ i. record { addr = r.addr i; size = r.span i }) (range_there m r.id r.alloc r.there))

-- what a step leaves takes what was taken before it and the ranges that it noted, and no more
module _ (m0 : Memory) (t c : ℕ) (m : Memory) (n : Tally) (f : MemoryFacts m0 t c m n) where
  pub step_also : TakesAlso (ranges_of m0) n.ranges (ranges_of m)
  step_also = (
    λ q k.
        let r = taken_in m0 q k in let st = f.stays r.id r.alloc r.there in
        taken_of_memory m q (record { id = r.id; alloc = st.alloc; there = st.there; addr = sym st.lasting.addr ∙ r.addr; span = sym st.lasting.span ∙ r.span }),
    λ q h. taken_of_memory m q (f.ranges q h),
  )

  pub step_only : TakesOnly (ranges_of m0) n.ranges (ranges_of m)
  step_only q k =
      let r = taken_in m q k in
      elim (f.from r.id r.alloc r.there) [
        | inl made ↦ inr (subst (Contains n.ranges) (λ i. (r.addr i, r.span i)) made.1)
        | inr was ↦ inl (taken_of_memory m0 q (record { id = r.id; alloc = was.alloc; there = was.there; addr = was.lasting.addr ∙ r.addr; span = was.lasting.span ∙ r.span }))
      ]

-- TWO NEIGHBOURING STEPS, the second of which leads from m0 to m2 where it goes first
pub steps_exchanged : (ss0 ss1 ss2 : List Status) (m0 m1 m2 : Memory) (t ct u cu : ℕ) (n n' : Tally) (asks : List Ask) (picks : List ℕ) (asks' : List Ask) (picks' : List ℕ)
    → MemoryFacts m0 t ct m1 n → n.ranges ≡ addresses asks picks → MemoryFacts m0 u cu m2 n' → n'.ranges ≡ addresses asks' picks'
    → ((l w : ℕ) → Contains asks' (Waiter l) → on_lock l (slice_get ss1 w) ≡ on_lock l (slice_get ss0 w))
    → ((l w : ℕ) → Contains asks (Waiter l) → on_lock l (slice_get ss0 w) ≡ on_lock l (slice_get ss2 w))
    → Meets ss0 (ranges_of m0) asks picks → Meets ss1 (ranges_of m1) asks' picks'
    → Exchanged ss0 ss2 (ranges_of m0) (ranges_of m2) asks picks asks' picks'
steps_exchanged ss0 ss1 ss2 m0 m1 m2 t ct u cu n n' asks picks asks' picks' f e f' e' w w' m m' =
    exchanged ss0 ss1 ss2 (ranges_of m0) (ranges_of m1) (ranges_of m2) asks picks asks' picks'
    (subst (λ es. TakesAlso (ranges_of m0) es (ranges_of m1)) e (step_also m0 t ct m1 n f))
    (subst (λ es. TakesOnly (ranges_of m0) es (ranges_of m2)) e' (step_only m0 u cu m2 n' f'))
    (still_waiting ss1 ss0 (ranges_of m1) asks' picks' w m')
    (still_waiting ss0 ss2 (ranges_of m0) asks picks w' m)
    m m'

-- ---- why identities have to be new

-- Identity 0 0 has a range already, and the first pick gets the same identity.
abbrev held : Ranges
held = (own 0 0, record { addr = 104; size = 8 }) ∷ []

abbrev two : List Ask
two = Address 8 8 ∷ Address 8 8 ∷ []

-- so its old range is forgotten, and no rule is broken
reused_legal : picks_fault [] held 0 0 two (200 ∷ 104 ∷ []) ≡ None
unfolding range_fault
reused_legal = refl

reused_unmet : Meets [] held two (200 ∷ 104 ∷ []) → ⊥
reused_unmet m =
    let c : is_meeting 104 8 104 8 ≡ false = m.3.1 (own 0 0) (record { addr = 104; size = 8 }) (here (own 0 0, record { addr = 104; size = 8 }) []) in cc
