-- The swap law, over any language of steps that tells what it does.
use Rattle.mr_exchange.proofs.Common.{◌≡◌, ◌≢◌, ℕ, ◌<◌, refl, sym, ap, ◌∙◌, subst, List, length, arith, ◌⊎◌, inl, inr, Some, None, false, Contains, slice_get, slice_get_within, Enabled, depends, wakes, ranges_of, Waiter, Went, run, Apart, on_lock, count_of, state_fault, Completed, Creation, CreatesLock, CreatesNothing, CreatesThread, Goes, Language, Needs, State, Thread, bare, needs, Notes, start_notes, Query, Reply, Shared, StepScript, answer, MemoryFacts, AreNewIn, Exchanged, HasRoom, IsLegalEntry, Meets, At, IsGoing, LockCount, Reads, Spot, ThreadCount, WaitsLock, Writes, at_spot, AreExchanged, IsCreated, IsSane, IsStarted, IsTelling, IsWaiter, StepTold, SwapLaw}
use Rattle.mr_base.proofs.ScriptSwaps.{Follows, Grows, Swapped, follows, frame, grows, swap}
use Rattle.mr_start.specs.PlanRuns.{foot_in}
use Rattle.mr_base.proofs.Lists.{item_there}
use Rattle.mr_exchange.proofs.BareSteps.{Taken, bare_goes, needs_are, needs_in, other_thread, taken, threads_after, threads_in_order, whole, whole_run}
use Rattle.mr_exchange.proofs.ElementTests.{any_from}
use Rattle.mr_exchange.proofs.Editions.{foot_same, freed_there}
use Rattle.mr_exchange.proofs.FreeSteps.{not_woken}
use Rattle.mr_exchange.proofs.Independence.{apart_steps}
use Rattle.mr_exchange.proofs.LegalEntries.{enabled_of_legal, entry_of_legal, legal_of_entry}
use Rattle.mr_exchange.proofs.LocalCalls.{Agrees, local}
use Rattle.mr_exchange.proofs.MeetsLaws.{steps_exchanged}
use Rattle.mr_exchange.proofs.StatusFacts.{StatusFacts}
use Rattle.mr_exchange.proofs.StepGrows.{growing, kept, same_shared}
use Rattle.mr_exchange.proofs.StepRuns.{memory_of, statuses_of}

-- ---- the laws of scripts, for steps

-- a script does the same from a state that agrees where it reads
step_follows : {A : Type 0} (script : StepScript A) (s s' t : Shared) (n n' : Notes) (x : A) → IsGoing s n → IsGoing s' n → run answer script (s, n) ≡ Went x (t, n') → Agrees s s' n'
    → Follows Query Reply Shared Notes answer Spot At at_spot Reads Writes IsGoing (run answer script) s s' t n n' x
step_follows script s s' t n n' x i i' h agree =
    follows Query Reply Shared Notes answer Spot At at_spot Reads Writes IsGoing local growing kept script s s' t n n' x i i' h agree

-- it changes only what it writes
step_frame : {A : Type 0} (script : StepScript A) (s t : Shared) (n n' : Notes) (x : A) → IsGoing s n → run answer script (s, n) ≡ Went x (t, n') → (o : Spot)
    → (at_spot t o ≡ at_spot s o) ⊎ Writes n' o
step_frame script s t n n' x i h o = frame Query Reply Shared Notes answer Spot At at_spot Reads Writes IsGoing local growing kept script s t n n' x i h o

-- what it notes only grows
step_grows : {A : Type 0} (script : StepScript A) (s t : Shared) (n n' : Notes) (x : A) → run answer script (s, n) ≡ Went x (t, n')
    → Grows Query Reply Shared Notes answer Spot At at_spot Reads Writes IsGoing n n'
step_grows script s t n n' x h = grows Query Reply Shared Notes answer Spot At at_spot Reads Writes IsGoing local growing kept script s t n n' x h

-- there is room still where as many exist
room_there : (s s' : Shared) (c : Creation) (n : Notes) → IsCreated c n.events → Agrees s s' n → HasRoom s c → HasRoom s' c
room_there s s' CreatesNothing n told same h = tt
room_there s s' CreatesThread n told same h = subst (λ k. k < 1024) (same ThreadCount told) h
room_there s s' CreatesLock n told same h = subst (λ k. k < 4096) (same LockCount told) h

-- ---- two steps: f of thread t from s to s1, and g of thread u from s1 to s2

module _ {L : Type 0} (step : Language L) (tells : IsTelling step) (s s1 s2 : State L) (t u : ℕ) (ps qs : List ℕ) (nf ng : Notes) (sane : IsSane s) (threads : t ≢ u)
    (legal_f : state_fault step s t ps ≡ None) (bare_f : bare step s t ps ≡ Completed nf s1)
    (legal_g : state_fault step s1 u qs ≡ None) (bare_g : bare step s1 u qs ≡ Completed ng s2)
    (asleep : wakes (foot_in step nf s1) u ≡ false) (free : depends (foot_in step nf s1) (foot_in step ng s2) ≡ false) where
  f : Taken step s t ps nf s1
  f = taken step s t ps nf s1 bare_f

  g : Taken step s1 u qs ng s2
  g = taken step s1 u qs ng s2 bare_g

  turned : u ≢ t
  turned = λ e. threads (sym e)

  abbrev notes_f : Notes
  notes_f = start_notes t f.th.count

  abbrev notes_g : Notes
  notes_g = start_notes u g.th.count

  run_f : run answer (whole step f.th.own ps) (s.shared, notes_f) ≡ Went (Goes f.own f.started) (s1.shared, nf)
  run_f = whole_run step s t ps nf s1 f

  run_g : run answer (whole step g.th.own qs) (s1.shared, notes_g) ≡ Went (Goes g.own g.started) (s2.shared, ng)
  run_g = whole_run step s1 u qs ng s2 g

  told_f : StepTold f.plan ps f.started nf
  told_f = tells.told f.th.own s.shared f.mid s1.shared t f.th.count f.noted nf f.plan ps f.own f.started f.first f.second

  told_g : StepTold g.plan qs g.started ng
  told_g = tells.told g.th.own s1.shared g.mid s2.shared u g.th.count g.noted ng g.plan qs g.own g.started g.first g.second

  -- ---- threads

  facts_f : StatusFacts s.shared.statuses t s1.shared.statuses nf
  facts_f = statuses_of (whole step f.th.own ps) s.shared s1.shared t f.th.count nf (Goes f.own f.started) run_f

  facts_g : StatusFacts s1.shared.statuses u s2.shared.statuses ng
  facts_g = statuses_of (whole step g.th.own qs) s1.shared s2.shared u g.th.count ng (Goes g.own g.started) run_g

  t_on : slice_get s.shared.statuses t ≡ Some Enabled
  t_on = enabled_of_legal step s t ps legal_f

  u_on_later : slice_get s1.shared.statuses u ≡ Some Enabled
  u_on_later = enabled_of_legal step s1 u qs legal_g

  -- the second thread is enabled before the first step, which didn't wake it
  u_on : slice_get s.shared.statuses u ≡ Some Enabled
  u_on = elim (facts_f.before u turned u_on_later) [ inl h ↦ h | inr h ↦ absurd ((not_woken (foot_in step nf s1) u asleep).0 h) ]

  t_in : t < length s.shared.statuses
  t_in = slice_get_within s.shared.statuses t Enabled t_on

  u_thread : u < length s.threads
  u_thread = let same = sane.numbered in let below = slice_get_within s.shared.statuses u Enabled u_on in omega arith

  -- and it has the same state of its own
  u_here : slice_get s.threads u ≡ Some g.th
  u_here =
      let e = item_there s.threads u u_thread in
      let later : slice_get s1.threads u ≡ Some e.0 = ap (λ ths. slice_get ths u) f.threads ∙ other_thread s.threads t u f.own nf.tally.count f.started e.0 turned e.1 in
      e.1 ∙ sym later ∙ g.here

  -- ---- memory

  new_t : AreNewIn s.shared.memory t f.th.count
  new_t = λ id a e is. sane.counted id a e f.th (ap (slice_get s.threads) is ∙ f.here)

  new_u : AreNewIn s.shared.memory u g.th.count
  new_u = λ id a e is. sane.counted id a e g.th (ap (slice_get s.threads) is ∙ u_here)

  memory_f : MemoryFacts s.shared.memory t f.th.count s1.shared.memory nf.tally
  memory_f = memory_of (whole step f.th.own ps) s.shared s1.shared t f.th.count nf (Goes f.own f.started) run_f new_t

  new_u_later : AreNewIn s1.shared.memory u g.th.count
  new_u_later = λ id a e is. elim (memory_f.from id a e) [
    | inl k ↦ let made = memory_f.made id k.0 in absurd (threads (sym made.0 ∙ is))
    | inr k ↦ new_u id k.alloc k.there is
  ]

  memory_g : MemoryFacts s1.shared.memory u g.th.count s2.shared.memory ng.tally
  memory_g = memory_of (whole step g.th.own qs) s1.shared s2.shared u g.th.count ng (Goes g.own g.started) run_g new_u_later

  -- ---- the exchange

  apart : Apart Query Reply Shared Notes answer Spot At at_spot Reads Writes IsGoing local growing kept nf ng
  apart = apart_steps step.edition s.shared s1.shared s2.shared t u f.th.count g.th.count nf ng memory_f memory_g facts_f facts_g new_u_later threads t_in told_f.one_event told_g.one_event asleep free

  -- the first thread is enabled still behind the second step
  still_on : (v : Shared) → run answer (whole step g.th.own qs) (s.shared, notes_g) ≡ Went (Goes g.own g.started) (v, ng) → slice_get v.statuses t ≡ Some Enabled
  still_on v h = (statuses_of (whole step g.th.own qs) s.shared v u g.th.count ng (Goes g.own g.started) h).kept t threads t_on

  x : Swapped Query Reply Shared Notes answer Spot At at_spot Reads Writes IsGoing local growing kept (whole step f.th.own ps) (whole step g.th.own qs) s.shared s2.shared notes_f nf notes_g ng (Goes f.own f.started) (Goes g.own g.started)
  x =
      swap Query Reply Shared Notes answer Spot At at_spot Reads Writes IsGoing local growing kept same_shared (whole step f.th.own ps) (whole step g.th.own qs) s.shared s1.shared s2.shared notes_f nf notes_g ng (Goes f.own f.started) (Goes g.own g.started)
      (λ e. t_on) (λ e. u_on_later) (λ e. u_on) (λ v h e. still_on v h) run_f run_g apart

  -- what the second step reads is the same before the first one
  kept_g : Agrees s1.shared s.shared ng
  kept_g o r = elim (step_frame (whole step f.th.own ps) s.shared s1.shared notes_f nf (Goes f.own f.started) (λ e. t_on) run_f o) [
    | inl e ↦ e
    | inr w ↦ absurd (apart.second_reads o r w)
  ]

  -- and what the first step reads behind the second one
  kept_f : Agrees s.shared x.between nf
  kept_f o r = elim (step_frame (whole step g.th.own qs) s.shared x.between notes_g ng (Goes g.own g.started) (λ e. u_on) x.second_first o) [
    | inl e ↦ sym e
    | inr w ↦ absurd (apart.first_reads o r w)
  ]

  -- ---- the state between

  abbrev between : State L
  between = record { shared = x.between; threads = threads_after s.threads u g.own ng.tally.count g.started }

  t_here : slice_get (threads_after s.threads u g.own ng.tally.count g.started) t ≡ Some f.th
  t_here = other_thread s.threads u t g.own ng.tally.count g.started f.th threads f.here

  -- one at most starts a thread
  one_starts : (p : L) → f.started ≡ Some p → (q : L) → g.started ≡ Some q → ⊥
  one_starts p e q e' = apart.both_write ThreadCount (subst (λ o. IsStarted o nf.events) e told_f.starts) (subst (λ o. IsStarted o ng.events) e' told_g.starts)

  threads_end : threads_after (threads_after s.threads u g.own ng.tally.count g.started) t f.own nf.tally.count f.started ≡ s2.threads
  threads_end =
      threads_in_order s.threads t u f.own g.own nf.tally.count ng.tally.count f.started g.started threads (slice_get_within s.threads t f.th f.here) u_thread one_starts
      ∙ ap (λ ths. threads_after ths u g.own ng.tally.count g.started) (sym f.threads)
      ∙ sym g.threads

  -- ---- what the steps need

  grows_f : Grows Query Reply Shared Notes answer Spot At at_spot Reads Writes IsGoing f.noted nf
  grows_f = step_grows (f.plan.go ps) f.mid s1.shared f.noted nf (Goes f.own f.started) f.second

  grows_g : Grows Query Reply Shared Notes answer Spot At at_spot Reads Writes IsGoing g.noted ng
  grows_g = step_grows (g.plan.go qs) g.mid s2.shared g.noted ng (Goes g.own g.started) g.second

  -- the second step makes the same plan before the first one
  same_g : Follows Query Reply Shared Notes answer Spot At at_spot Reads Writes IsGoing (run answer (step.next g.th.own)) s1.shared s.shared g.mid notes_g g.noted g.plan
  same_g = step_follows (step.next g.th.own) s1.shared s.shared g.mid notes_g g.noted g.plan (λ e. u_on_later) (λ e. u_on) g.first (λ o r. kept_g o (grows_g.reads_grow o r))

  -- and the first one behind the second one
  same_f : Follows Query Reply Shared Notes answer Spot At at_spot Reads Writes IsGoing (run answer (step.next f.th.own)) s.shared x.between f.mid notes_f f.noted f.plan
  same_f = step_follows (step.next f.th.own) s.shared x.between f.mid notes_f f.noted f.plan (λ e. t_on) (λ e. still_on x.between x.second_first) f.first (λ o r. kept_f o (grows_f.reads_grow o r))

  needs_f : needs step s t ≡ needs_in f.plan
  needs_f = needs_are step s t f.th f.plan (f.mid, f.noted) f.here f.first

  needs_g_later : needs step s1 u ≡ needs_in g.plan
  needs_g_later = needs_are step s1 u g.th g.plan (g.mid, g.noted) g.here g.first

  needs_g : needs step s u ≡ needs_in g.plan
  needs_g = needs_are step s u g.th g.plan (same_g.after, g.noted) u_here same_g.goes

  needs_f_later : needs step between t ≡ needs_in f.plan
  needs_f_later = needs_are step between t f.th f.plan (same_f.after, f.noted) t_here same_f.goes

  entry_f : IsLegalEntry step s t ps
  entry_f = entry_of_legal step s t ps (subst (λ o. AreNewIn s.shared.memory t (count_of o)) (sym f.here) new_t) legal_f

  entry_g : IsLegalEntry step s1 u qs
  entry_g = entry_of_legal step s1 u qs (subst (λ o. AreNewIn s1.shared.memory u (count_of o)) (sym g.here) new_u_later) legal_g

  memory_g_first : MemoryFacts s.shared.memory u g.th.count x.between.memory ng.tally
  memory_g_first = memory_of (whole step g.th.own qs) s.shared x.between u g.th.count ng (Goes g.own g.started) x.second_first new_u

  new_t_later : AreNewIn x.between.memory t f.th.count
  new_t_later = λ id a e is. elim (memory_g_first.from id a e) [
    | inl k ↦ let made = memory_g_first.made id k.0 in absurd (threads (sym is ∙ made.0))
    | inr k ↦ new_t id k.alloc k.there is
  ]

  memory_f_second : MemoryFacts x.between.memory t f.th.count s2.shared.memory nf.tally
  memory_f_second = memory_of (whole step f.th.own ps) x.between s2.shared t f.th.count nf (Goes f.own f.started) x.first_second new_t_later

  -- who waits for a lock that is asked for is the same
  waits_g : (l w : ℕ) → Contains g.plan.asks (Waiter l) → on_lock l (slice_get s1.shared.statuses w) ≡ on_lock l (slice_get s.shared.statuses w)
  waits_g l w h =
      let looked = tells.looked g.th.own s1.shared g.mid u g.th.count g.noted g.plan g.first l (any_from (IsWaiter l) g.plan.asks (Waiter l) h refl) in
      kept_g (WaitsLock w l) (grows_g.reads_grow (WaitsLock w l) looked)

  waits_f : (l w : ℕ) → Contains f.plan.asks (Waiter l) → on_lock l (slice_get s.shared.statuses w) ≡ on_lock l (slice_get x.between.statuses w)
  waits_f l w h =
      let looked = tells.looked f.th.own s.shared f.mid t f.th.count f.noted f.plan f.first l (any_from (IsWaiter l) f.plan.asks (Waiter l) h refl) in
      kept_f (WaitsLock w l) (grows_f.reads_grow (WaitsLock w l) looked)

  -- the picks of both meet the asks in the other order
  picks : Exchanged s.shared.statuses x.between.statuses (ranges_of s.shared.memory) (ranges_of x.between.memory) f.plan.asks ps g.plan.asks qs
  picks =
      steps_exchanged s.shared.statuses s1.shared.statuses x.between.statuses s.shared.memory s1.shared.memory x.between.memory t f.th.count u g.th.count nf.tally ng.tally
      f.plan.asks ps g.plan.asks qs memory_f told_f.allocates memory_g_first told_g.allocates waits_g waits_f
      (subst (λ (k : Needs). Meets s.shared.statuses (ranges_of s.shared.memory) k.asks ps) needs_f entry_f.met)
      (subst (λ (k : Needs). Meets s1.shared.statuses (ranges_of s1.shared.memory) k.asks qs) needs_g_later entry_g.met)

  room_g : HasRoom s.shared g.plan.creates
  room_g = room_there s1.shared s.shared g.plan.creates ng told_g.creates kept_g (subst (λ (k : Needs). HasRoom s1.shared k.creates) needs_g_later entry_g.room)

  room_f : HasRoom x.between f.plan.creates
  room_f = room_there s.shared x.between f.plan.creates nf told_f.creates kept_f (subst (λ (k : Needs). HasRoom s.shared k.creates) needs_f entry_f.room)

  abbrev end_with : List (Thread L) → State L
  end_with ths = record { shared = s2.shared; threads = ths }

  -- ---- legal in the other order

  entry_g_first : IsLegalEntry step s u qs
  entry_g_first = record {
    enabled = u_on;
    room = subst (λ (k : Needs). HasRoom s.shared k.creates) (sym needs_g) room_g;
    met = subst (λ (k : Needs). Meets s.shared.statuses (ranges_of s.shared.memory) k.asks qs) (sym needs_g) picks.second;
  }

  entry_f_second : IsLegalEntry step between t ps
  entry_f_second = record {
    enabled = still_on x.between x.second_first;
    room = subst (λ (k : Needs). HasRoom x.between k.creates) (sym needs_f_later) room_f;
    met = subst (λ (k : Needs). Meets x.between.statuses (ranges_of x.between.memory) k.asks ps) (sym needs_f_later) picks.first;
  }

  -- THE TWO STEPS, EXCHANGED
  pub steps_swapped : AreExchanged step s s1 s2 t u ps qs nf ng
  steps_swapped = record {
    between = between;
    second_legal = legal_of_entry step s u qs entry_g_first;
    second_first = bare_goes step s u qs g.th g.own g.started x.between ng u_here x.second_first;
    first_legal = legal_of_entry step between t ps entry_f_second;
    first_second =
        bare_goes step between t ps f.th f.own f.started s2.shared nf t_here x.first_second
        ∙ ap (λ ths. Completed nf (end_with ths)) threads_end;
    second_foot = foot_same step.edition x.between.memory s2.shared.memory ng (freed_there memory_g_first memory_f_second);
    first_foot = sym (foot_same step.edition s1.shared.memory s2.shared.memory nf (freed_there memory_f memory_g));
  }

-- THE SWAP LAW
pub swap_law : {L : Type 0} (step : Language L) → IsTelling step → SwapLaw step
swap_law step tells s s1 s2 t u ps qs nf ng sane threads legal_f bare_f legal_g bare_g asleep free =
    steps_swapped step tells s s1 s2 t u ps qs nf ng sane threads legal_f bare_f legal_g bare_g asleep free
