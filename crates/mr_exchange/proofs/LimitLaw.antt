-- The law of limits, of any language of steps that tells what it does.
use Rattle.mr_exchange.proofs.Common.{◌≡◌, ℕ, ◌+◌, ◌<◌, ◌≤◌, ◌^◌, sym, ap, ◌∙◌, subst, List, [], ◌∷◌, All, arith, inl, inr, Bool, false, not, Option, None, Some, Any, Contains, length, or_parts, All-nil, slice_get_within, ◌==◌, ◌||◌, nat_lt, slice_get, AllocId, Event, Acquire, CreateLock, Join, Quiet, Release, Spawn, Status, Enabled, IsAccessOk, IsFootOk, Allocation, Memory, Ranges, ranges_of, Address, Waiter, Tally, count_of, state_fault, Completed, Creation, CreatesLock, CreatesNothing, CreatesThread, Goes, Language, Needs, State, Thread, bare, needs, Notes, event_of, foot_of, start_notes, Shared, Contains-nil, MemoryFacts, start_facts, longer_contains, tally_grows, AreNewIn, HasRoom, IsLegalEntry, Meets, MeetsAfter, addresses, IsCreation, IsSpawn, HasOneEvent, IsCreated, IsSane, IsTelling, StepTold}
use Rattle.std.proofs.lemmas.Bool.{ltb-false}
use Rattle.std.proofs.lemmas.List.Elements.{All-contains_itself}
use Rattle.mr_event.specs.FootOk.{IsEventOk}
use Rattle.mr_mem.specs.Memory.{is_multiple}
use Rattle.mr_sched.specs.declared.schedule.Ask.{Ask}
use Rattle.mr_start.specs.PlanLimits.{ArePlaced, IsWithin}
use Rattle.mr_start.proofs.PlanAccessBounds.{accesses_ok}
use Rattle.mr_exchange.specs.Limits.{LimitLaw}
use Rattle.std.specs.FinMap as fin
use Rattle.mr_exchange.proofs.BareSteps.{Taken, needs_are, needs_in, taken, whole, whole_run}
use Rattle.mr_exchange.proofs.Changes.{Change, at_memory, awaits_end, awaits_lock, frees_lock, gives_lock, new_lock, new_thread, own_end, prints, run_keeps, sees_end, sees_lock, takes_lock}
use Rattle.mr_exchange.proofs.Editions.{all_ok}
use Rattle.mr_exchange.proofs.ElementTests.{any_element, front_cases, here}
use Rattle.mr_exchange.proofs.LegalEntries.{enabled_of_legal, entry_of_legal}
use Rattle.mr_exchange.proofs.Noted.{Grew, IsThere, Noted, noted_kept, start_noted}
use Rattle.mr_exchange.proofs.StepRuns.{memory_kept}

-- what holds of each element holds of all
all_of : {A : Type 0} (P : A → Type 0) (xs : List A) → ((x : A) → Contains xs x → P x) → All P xs
all_of P xs h = λ k d lt. h _ (All-contains_itself xs k d lt)

-- ---- picked ranges

-- a range ends where the addresses do or before
abbrev IsLow : ℕ × ℕ → Type 0
IsLow r = r.0 + r.1 ≤ 2 ^ 64

good_low : (a b c : Bool) → (a || (not b || c)) ≡ false → c ≡ false
good_low a b c h = (or_parts (not b) c (or_parts a (not b || c) h).1).1

picked_low : (ss : List Status) (rs : Ranges) (es : List (ℕ × ℕ)) (asks : List Ask) (picks : List ℕ) → MeetsAfter ss rs es asks picks → (r : ℕ × ℕ) → Contains (addresses asks picks) r → IsLow r
picked_low ss rs es [] picks m r c = absurd (Contains-nil r c)
picked_low ss rs es (ask ∷ asks) [] m r c = absurd m
picked_low ss rs es (Address size align ∷ asks) (addr ∷ picks) m r c =
    elim (front_cases (addr, size) (addresses asks picks) r c) [
      | inl e ↦ subst IsLow e (ltb-false (2 ^ 64) (addr + size) (good_low (addr == 0) (is_multiple addr align) (nat_lt (2 ^ 64) (addr + size)) m.0))
      | inr k ↦ picked_low ss rs ((addr, size) ∷ es) asks picks m.3 r k
    ]
picked_low ss rs es (Waiter lock ∷ asks) (thread ∷ picks) m r c = picked_low ss rs es asks picks m.1 r c

-- ---- the memory of a step

-- where the ranges that it made are low, each allocation lies among the addresses
placed_by : (m0 : Memory) (t c : ℕ) (m : Memory) (n : Tally) → MemoryFacts m0 t c m n → ArePlaced m0 → ((r : ℕ × ℕ) → Contains n.ranges r → IsLow r) → ArePlaced m
placed_by m0 t c m n f before low id a is = elim (f.from id a is) [
  | inl made ↦ (made.2, low (a.addr, a.span) made.1)
  | inr was ↦
      let b = before id was.alloc was.there in
      let in_it = b.0 in
      let lies = b.1 in
      let addr = was.lasting.addr in
      let span = was.lasting.span in
      let size = was.lasting.size in
      (omega arith, omega arith)
]

-- its accesses, where the ranges that it made so far are low
abbrev GoodAccesses : Memory → ℕ → ℕ → Shared → Notes → Type 0
GoodAccesses m0 t c s n =
    MemoryFacts m0 t c s.memory n.tally × (((r : ℕ × ℕ) → Contains n.tally.ranges r → IsLow r) → All IsAccessOk n.tally.accesses)

accesses_kept : (m0 : Memory) (t c : ℕ) → ArePlaced m0 → (s s' : Shared) (n n' : Notes) → Change s n s' n' → GoodAccesses m0 t c s n → GoodAccesses m0 t c s' n'
accesses_kept m0 t c placed s s' n n' (at_memory q x m k e) f = (
  memory_kept m0 t c s s' n n' (at_memory q x m k e) f.0,
  λ low.
      let before : (r : ℕ × ℕ) → Contains n.tally.ranges r → IsLow r = λ r h. low r (longer_contains n.tally.ranges k.ranges r (tally_grows q s.memory m n.tally k x e).ranges h) in
      accesses_ok q s.memory m n.tally k x (placed_by m0 t c s.memory n.tally f.0 placed before) e (f.1 before),
)
accesses_kept m0 t c placed s s' n n' new_lock f = f
accesses_kept m0 t c placed s s' n n' (takes_lock l lt) f = f
accesses_kept m0 t c placed s s' n n' (awaits_lock l lt) f = f
accesses_kept m0 t c placed s s' n n' (sees_lock l lt) f = f
accesses_kept m0 t c placed s s' n n' (frees_lock l lt) f = f
accesses_kept m0 t c placed s s' n n' (gives_lock l u lt w) f = f
accesses_kept m0 t c placed s s' n n' new_thread f = f
accesses_kept m0 t c placed s s' n n' (sees_end u lt) f = f
accesses_kept m0 t c placed s s' n n' (awaits_end u lt) f = f
accesses_kept m0 t c placed s s' n n' own_end f = f
accesses_kept m0 t c placed s s' n n' (prints text) f = f

-- ---- threads and locks

-- no event starts a thread and creates a lock
no_both : (e : Event) → IsSpawn e → IsCreation e → ⊥
no_both Quiet a b = a
no_both (CreateLock l) a b = a
no_both (Acquire l) a b = a
no_both (Release l) a b = a
no_both (Spawn t) a b = b
no_both (Join t) a b = a

not_both : (es : List Event) → HasOneEvent es → Any IsSpawn es → Any IsCreation es → ⊥
not_both es one a b =
    let x = any_element IsSpawn es a in
    let y = any_element IsCreation es b in
    no_both x.0 x.2 (subst IsCreation (sym (one y.0 y.1) ∙ one x.0 x.1) y.2)

-- where there is room for what it creates, there are no more than there may be
few_threads : (s : Shared) (c : Creation) (es : List Event) (now : ℕ) → HasOneEvent es → IsCreated c es → HasRoom s c → length s.statuses ≤ 1024 → Grew IsSpawn es (length s.statuses) now → now ≤ 1024
few_threads s c es now one made room few (inl same) = omega (arith, same)
few_threads s CreatesNothing es now one made room few (inr more) = absurd (made.0 more.0)
few_threads s CreatesThread es now one made room few (inr more) = let e = more.1 in omega arith
few_threads s CreatesLock es now one made room few (inr more) = absurd (not_both es one more.0 made)

few_locks : (s : Shared) (c : Creation) (es : List Event) (now : ℕ) → HasOneEvent es → IsCreated c es → HasRoom s c → length s.holders ≤ 4096 → Grew IsCreation es (length s.holders) now → now ≤ 4096
few_locks s c es now one made room few (inl same) = omega (arith, same)
few_locks s CreatesNothing es now one made room few (inr more) = absurd (made.1 more.0)
few_locks s CreatesThread es now one made room few (inr more) = absurd (not_both es one made more.0)
few_locks s CreatesLock es now one made room few (inr more) = let e = more.1 in omega arith

event_ok : (threads locks : ℕ) (e : Event) → threads ≤ 1024 → locks ≤ 4096 → IsThere threads locks e → IsEventOk e
event_ok threads locks Quiet ts ls h = tt
event_ok threads locks (CreateLock l) ts ls h = omega arith
event_ok threads locks (Acquire l) ts ls h = omega arith
event_ok threads locks (Release l) ts ls h = omega arith
event_ok threads locks (Spawn t) ts ls h = omega arith
event_ok threads locks (Join t) ts ls h = omega arith

first_ok : (es : List Event) → ((e : Event) → Contains es e → IsEventOk e) → IsEventOk (event_of es)
first_ok [] h = tt
first_ok (e ∷ es) h = h e (here e es)

-- ---- a step

module _ {L : Type 0} (step : Language L) (tells : IsTelling step) (s s' : State L) (t : ℕ) (picks : List ℕ) (n : Notes) (sane : IsSane s) (within : IsWithin s)
    (legal : state_fault step s t picks ≡ None) (done : bare step s t picks ≡ Completed n s') where
  k : Taken step s t picks n s'
  k = taken step s t picks n s' done

  told : StepTold k.plan picks k.started n
  told = tells.told k.th.own s.shared k.mid s'.shared t k.th.count k.noted n k.plan picks k.own k.started k.first k.second

  enabled : slice_get s.shared.statuses t ≡ Some Enabled
  enabled = enabled_of_legal step s t picks legal

  t_low : t < 1024
  t_low = let lt = slice_get_within s.shared.statuses t Enabled enabled in let few = within.threads in omega arith

  new : AreNewIn s.shared.memory t k.th.count
  new = λ id a e is. sane.counted id a e k.th (ap (slice_get s.threads) is ∙ k.here)

  entry : IsLegalEntry step s t picks
  entry = entry_of_legal step s t picks (subst (λ (o : Option (Thread L)). AreNewIn s.shared.memory t (count_of o)) (sym k.here) new) legal

  needed : needs step s t ≡ needs_in k.plan
  needed = needs_are step s t k.th k.plan (k.mid, k.noted) k.here k.first

  room : HasRoom s.shared k.plan.creates
  room = subst (λ (x : Needs). HasRoom s.shared x.creates) needed entry.room

  met : Meets s.shared.statuses (ranges_of s.shared.memory) k.plan.asks picks
  met = subst (λ (x : Needs). Meets s.shared.statuses (ranges_of s.shared.memory) x.asks picks) needed entry.met

  low : (r : ℕ × ℕ) → Contains n.tally.ranges r → IsLow r
  low r c = picked_low s.shared.statuses (ranges_of s.shared.memory) [] k.plan.asks picks met r (subst (λ rs. Contains rs r) told.allocates c)

  -- what it noted of memory
  accesses : GoodAccesses s.shared.memory t k.th.count s'.shared n
  accesses =
      run_keeps (GoodAccesses s.shared.memory t k.th.count) (accesses_kept s.shared.memory t k.th.count within.placed)
      (whole step k.th.own picks) s.shared s'.shared (start_notes t k.th.count) n (Goes k.own k.started)
      (start_facts s.shared.memory t k.th.count new, λ h. All-nil IsAccessOk) (whole_run step s t picks n s' k)

  memory : MemoryFacts s.shared.memory t k.th.count s'.shared.memory n.tally
  memory = accesses.0

  -- and of threads and locks
  noted : Noted (length s.shared.statuses) (length s.shared.holders) s'.shared n
  noted =
      run_keeps (Noted (length s.shared.statuses) (length s.shared.holders)) (noted_kept (length s.shared.statuses) (length s.shared.holders))
      (whole step k.th.own picks) s.shared s'.shared (start_notes t k.th.count) n (Goes k.own k.started)
      (start_noted s.shared t k.th.count) (whole_run step s t picks n s' k)

  threads : length s'.shared.statuses ≤ 1024
  threads = few_threads s.shared k.plan.creates n.events (length s'.shared.statuses) told.one_event told.creates room within.threads (noted.new_threads told.one_event)

  locks : length s'.shared.holders ≤ 4096
  locks = few_locks s.shared k.plan.creates n.events (length s'.shared.holders) told.one_event told.creates room within.locks (noted.new_locks told.one_event)

  -- who made what there is now
  maker : (id : AllocId) (a : Allocation) → fin.get s'.shared.memory id ≡ Some a → id.thread < 1024
  maker id a is = elim (memory.from id a is) [
    | inl made ↦ (let own = (memory.made id made.0).0 in let lt = t_low in omega arith)
    | inr was ↦ (let lt = sane.has_thread id was.alloc was.there in let same = sane.numbered in let few = within.threads in omega arith)
  ]

  pub step_within : IsWithin s'
  step_within = record { threads = threads; locks = locks; placed = placed_by s.shared.memory t k.th.count s'.shared.memory n.tally memory within.placed low }

  pub step_ok : IsFootOk (foot_of step.edition s'.shared.memory n)
  step_ok = record {
    thread = let same = memory.thread in let lt = t_low in omega arith;
    woken = all_of (λ u. u < 1024) n.woken (λ u c. let lt = noted.woken u c in let few = threads in omega arith);
    rising = told.rises;
    event = first_ok n.events (λ e c. event_ok (length s'.shared.statuses) (length s'.shared.holders) e threads locks (noted.events e c));
    allocated = all_of (λ (i : AllocId). i.thread < 1024) n.tally.made (λ id c. let own = (memory.made id c).0 in let lt = t_low in omega arith);
    freed = all_of (λ (i : AllocId). i.thread < 1024) n.tally.freed (λ id c. let u = (memory.used id (inr c)).0 in maker id u.0 u.1);
    touched = all_of (λ (i : AllocId). i.thread < 1024) n.tally.touched (λ id c. let u = (memory.used id (inl c)).0 in maker id u.0 u.1);
    accesses = all_ok step.edition s'.shared.memory n.tally step_within.placed (accesses.1 low);
  }

-- THE LAW OF LIMITS
pub limit_law : {L : Type 0} (step : Language L) → IsTelling step → LimitLaw step
limit_law step tells s s' t picks n sane within legal done =
    (step_ok step tells s s' t picks n sane within legal done, step_within step tells s s' t picks n sane within legal done)
