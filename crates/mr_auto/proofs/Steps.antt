-- A drawn entry is legal, and what is found next lies behind all that memory has then.
use Rattle.mr_auto.proofs.Common.{◌≡◌, ℕ, zero, suc, ◌<◌, refl, sym, ap, ◌∙◌, subst, inl, inr, arith, List, [], Bool, true, false, Option, Some, None, Contains, slice_get, if◌then◌else◌, same_Some, Enabled, behind_draw, Chooser, Ask, Entry, is_enabled, WellFormed, Fault, creation_fault, Bare, Completed, Goes, IllFormedStep, State, Stops, bare, needs, Config, after_bare, is_running, machine_step, stepped_from, Contains-nil, Look, Own, thread_step, IsTaken, addresses, Next, Picked, candidate, drawn_entries, enabled_in, entry_by, entry_of, led, next_at, next_in, picked, within_limits, EndsBy, LiesBehind}
use Rattle.mr_start.specs.MemMemory.{ranges_of}
use Rattle.mr_run.specs.StepPlanLegal.{count_of, else_fault, fault, needs_fault, picks_fault, state_fault, status_fault}
use Rattle.mr_run.specs.StepPlanNotes.{Notes}
use Rattle.mr_run.specs.StepPlanRuns.{AreLegal, entry_fault, fault_in}
use Rattle.mr_start.specs.FrameFits.{IsLook}
use Rattle.mr_start.proofs.RunSound.{entry_sound}
use Rattle.mr_start.specs.SoundState.{IsSoundConfig}
use Rattle.mr_run.proofs.StepExchangeSane.{sound_is_sane}
use Rattle.mr_run.proofs.StepExchangeTelling.{thread_step_tells}
use Rattle.mr_run.specs.StepSwapMeets.{AreNewIn}
use Rattle.mr_run.proofs.StepSwapBareSteps.{needs_are, taken, whole, whole_run}
use Rattle.mr_run.proofs.StepSwapMeetsLaws.{legal_of_meets, step_only}
use Rattle.mr_run.proofs.StepSwapStepRuns.{memory_of}
use Rattle.mr_run.proofs.StepEntryLaws.{enabled_is}
use Rattle.mr_auto.proofs.Picks.{ArePicks, candidate_passes, picks_are}
use Rattle.mr_sched.specs.declared.rule.ScheduleRule.TheVariants as rule

-- ---- an entry that was drawn, taken apart

pub record DrawnIn (look : Look) (s : State Own) (c : Chooser) (next : Next) : Type 0 where
  pub thread : ℕ
  pub enabled : slice_get s.shared.statuses thread ≡ Some Enabled
  pub room : creation_fault s.shared (needs (thread_step look) s thread).creates ≡ None
  pub picks : Picked
  pub are : picked s.shared.statuses (behind_draw c) (needs (thread_step look) s thread).asks ≡ Some picks
  pub is : next ≡ record { entry = record { thread = thread; picks = picks.picks }; chooser = picks.chooser }

pub drawn_in : (look : Look) (s : State Own) (c : Chooser) (next : Next) → next_in look c (Some s) ≡ Some next → DrawnIn look s c next
drawn_in look s c next h = by_candidate (candidate c (enabled_in s.shared.statuses)) refl h
  where
    by_picks : (t : ℕ) → candidate c (enabled_in s.shared.statuses) ≡ Some t → creation_fault s.shared (needs (thread_step look) s t).creates ≡ None
        → (o : Option Picked) → picked s.shared.statuses (behind_draw c) (needs (thread_step look) s t).asks ≡ o → entry_of t o ≡ Some next → DrawnIn look s c next
    by_picks t e room None are k = absurd (cc)
    by_picks t e room (Some r) are k = record {
      thread = t;
      enabled = enabled_is (slice_get s.shared.statuses t) (candidate_passes is_enabled s.shared.statuses c t e);
      room = room;
      picks = r;
      are = are;
      is = sym (same_Some _ next k);
    }

    by_room : (t : ℕ) → candidate c (enabled_in s.shared.statuses) ≡ Some t → (f : Option Fault) → creation_fault s.shared (needs (thread_step look) s t).creates ≡ f
        → within_limits f (entry_of t (picked s.shared.statuses (behind_draw c) (needs (thread_step look) s t).asks)) ≡ Some next → DrawnIn look s c next
    by_room t e None room k = by_picks t e room (picked s.shared.statuses (behind_draw c) (needs (thread_step look) s t).asks) refl k
    by_room t e (Some f) room k = absurd (cc)

    by_candidate : (o : Option ℕ) → candidate c (enabled_in s.shared.statuses) ≡ o → entry_by look s c o ≡ Some next → DrawnIn look s c next
    by_candidate None e k = absurd (cc)
    by_candidate (Some t) e k = by_room t e (creation_fault s.shared (needs (thread_step look) s t).creates) refl k

-- the machine that runs, and its state
pub record DrawnAt (look : Look) (c : Config Own) (chooser : Chooser) (next : Next) : Type 0 where
  pub running : is_running c.verdict ≡ true
  pub state : State Own
  pub there : c.state ≡ Some state
  pub drawn : DrawnIn look state chooser next

pub drawn_at : (look : Look) (c : Config Own) (chooser : Chooser) (next : Next) → next_at look c chooser ≡ Some next → DrawnAt look c chooser next
drawn_at look c chooser next h = by_verdict (is_running c.verdict) refl h
  where
    by_state : is_running c.verdict ≡ true → (o : Option (State Own)) → c.state ≡ o → next_in look chooser o ≡ Some next → DrawnAt look c chooser next
    by_state running None e k = absurd (cc)
    by_state running (Some s) e k = record { running = running; state = s; there = e; drawn = drawn_in look s chooser next k }

    by_verdict : (b : Bool) → is_running c.verdict ≡ b → (if b then next_in look chooser c.state else None) ≡ Some next → DrawnAt look c chooser next
    by_verdict true e k = by_state e c.state refl k
    by_verdict false e k = absurd (cc)

-- ---- addresses to come

module _ (look : Look) (s : State Own) (c : Chooser) (next : Next) (d : DrawnIn look s c next) (pos : 0 < c.next) (behind : (q : ℕ × ℕ) → IsTaken (ranges_of s.shared.memory) q → EndsBy c.next q) where
  abbrev asks : List Ask
  asks = (needs (thread_step look) s d.thread).asks

  pub drawn_picks : ArePicks s.shared.statuses (ranges_of s.shared.memory) [] (behind_draw c) asks d.picks
  drawn_picks = picks_are s.shared.statuses (ranges_of s.shared.memory) [] (behind_draw c) asks d.picks d.are pos behind (λ q k. absurd (Contains-nil q k))

  -- no rule is broken
  pub drawn_legal : state_fault (thread_step look) s d.thread d.picks.picks ≡ None
  drawn_legal =
      let n = needs (thread_step look) s d.thread in
      let count = count_of (slice_get s.threads d.thread) in
      ap (λ o. else_fault (status_fault o) (needs_fault s.shared d.thread count n d.picks.picks)) d.enabled
      ∙ ap (λ o. else_fault o (picks_fault s.shared.statuses (ranges_of s.shared.memory) d.thread count n.asks d.picks.picks)) d.room
      ∙ legal_of_meets s.shared.statuses (ranges_of s.shared.memory) d.thread count n.asks d.picks.picks drawn_picks.meets

  -- behind the step memory has what it had, and what was picked
  module _ (program : Rattle.mr_ast.specs.declared.program.Program.Program) (sound : Rattle.mr_start.specs.SoundState.SoundState program s) where
    pub taken_behind : (n : Notes) (s' : State Own) → bare (thread_step look) s d.thread d.picks.picks ≡ Completed n s' → (q : ℕ × ℕ) → IsTaken (ranges_of s'.shared.memory) q → EndsBy d.picks.chooser.next q
    taken_behind n s' e q h =
        let k = taken (thread_step look) s d.thread d.picks.picks n s' e in
        let told = (thread_step_tells look).told k.th.own s.shared k.mid s'.shared d.thread k.th.count k.noted n k.plan d.picks.picks k.own k.started k.first k.second in
        let needed = needs_are (thread_step look) s d.thread k.th k.plan (k.mid, k.noted) k.here k.first in
        let sane = sound_is_sane program s sound in
        let new : AreNewIn s.shared.memory d.thread k.th.count = λ id a there is. sane.counted id a there k.th (ap (slice_get s.threads) is ∙ k.here) in
        let facts = memory_of (whole (thread_step look) k.th.own d.picks.picks) s.shared s'.shared d.thread k.th.count n (Goes k.own k.started) (whole_run (thread_step look) s d.thread d.picks.picks n s' k) new in
        let ranges : n.tally.ranges ≡ addresses asks d.picks.picks = told.allocates ∙ ap (λ (m : Rattle.mr_run.specs.StepPlanMachine.Needs). addresses m.asks d.picks.picks) (sym needed) in
        elim (step_only s.shared.memory d.thread k.th.count s'.shared.memory n.tally facts q h) [
          | inl old ↦ let low = behind q old in let up = drawn_picks.grows in omega arith
          | inr made ↦ drawn_picks.ends q (subst (λ rs. Contains rs q) ranges made)
        ]

-- ---- one entry

module _ (look : Look) (is : IsLook look) (well : WellFormed look.program) (c : Config Own) (chooser : Chooser) (next : Next)
    (sound : IsSoundConfig look.program c) (lies : LiesBehind c chooser) (d : DrawnAt look c chooser next) where
  abbrev s : State Own
  s = d.state

  abbrev entry : Entry
  entry = record { thread = d.drawn.thread; picks = d.drawn.picks.picks }

  legal_here : entry_fault (thread_step look) c entry ≡ None
  unfolding entry_fault
  legal_here =
      ap (λ (b : Bool). if b then fault_in (thread_step look) entry.thread entry.picks c.state else fault rule.AfterStop) d.running
      ∙ ap (fault_in (thread_step look) entry.thread entry.picks) d.there
      ∙ drawn_legal look s chooser next d.drawn lies.positive (lies.behind s d.there)

  -- IT BREAKS NO RULE
  pub next_legal : entry_fault (thread_step look) c next.entry ≡ None
  next_legal = ap (λ (x : Next). entry_fault (thread_step look) c x.entry) d.drawn.is ∙ legal_here

  by_bare : (b : Bare Own) → bare (thread_step look) s entry.thread entry.picks ≡ b → (x : State Own) → (after_bare (thread_step look) c b).state ≡ Some x
      → (q : ℕ × ℕ) → IsTaken (ranges_of x.shared.memory) q → EndsBy d.drawn.picks.chooser.next q
  by_bare (Completed n s') e x h q k =
      taken_behind look s chooser next d.drawn lies.positive (lies.behind s d.there) look.program (sound s d.there) n s' e q
      (subst (λ (y : State Own). IsTaken (ranges_of y.shared.memory) q) (sym (same_Some s' x h)) k)
  by_bare (Stops v about) e x h q k = absurd (cc)
  by_bare IllFormedStep e x h q k = absurd (cc)

  lies_here : LiesBehind (machine_step (thread_step look) c entry) d.drawn.picks.chooser
  unfolding machine_step
  lies_here = record {
    positive = (let up = (drawn_picks look s chooser next d.drawn lies.positive (lies.behind s d.there)).grows in let low = lies.positive in omega arith);
    behind = λ x h. by_bare (bare (thread_step look) s entry.thread entry.picks) refl x (sym (ap (λ (o : Option (State Own)). (stepped_from (thread_step look) c entry.thread entry.picks o).state) d.there) ∙ h);
  }

  -- and all lies behind the machine's memory again
  pub next_lies : LiesBehind (machine_step (thread_step look) c next.entry) next.chooser
  next_lies = subst (λ (x : Next). LiesBehind (machine_step (thread_step look) c x.entry) x.chooser) (sym d.drawn.is) lies_here

  pub next_sound : IsSoundConfig look.program (machine_step (thread_step look) c next.entry)
  next_sound = (entry_sound look is well c next.entry sound next_legal).1

-- ALL ENTRIES THAT ARE DRAWN ARE LEGAL
pub entries_legal : (look : Look) → IsLook look → WellFormed look.program → (n : ℕ) (c : Config Own) (chooser : Chooser) → IsSoundConfig look.program c → LiesBehind c chooser
    → AreLegal (thread_step look) c (drawn_entries look n c chooser)
entries_legal look is well zero c chooser sound lies = tt
entries_legal look is well (suc n) c chooser sound lies = by_next (next_at look c chooser) refl (entries_legal look is well n)
  where
    by_next : (o : Option Next) → next_at look c chooser ≡ o
        → ((c : Config Own) (chooser : Chooser) → IsSoundConfig look.program c → LiesBehind c chooser → AreLegal (thread_step look) c (drawn_entries look n c chooser))
        → AreLegal (thread_step look) c (led o (λ next. drawn_entries look n (Rattle.mr_start.specs.Runs.program_step look c next.entry) next.chooser))
    by_next None e more = tt
    by_next (Some next) e more =
        let d = drawn_at look c chooser next e in (
          next_legal look is well c chooser next sound lies d,
          more (machine_step (thread_step look) c next.entry) next.chooser (next_sound look is well c chooser next sound lies d) (next_lies look is well c chooser next sound lies d),
        )
