-- The entry of a turn is legal, and what is found next lies behind all that memory has then.
use Rattle.mr_fill.proofs.Common.{◌≡◌, ℕ, ◌<◌, refl, sym, ap, ◌∙◌, subst, inl, inr, arith, List, [], ◌∷◌, Bool, true, false, Option, Some, None, Result, Ok, Err, Contains, slice_get, if◌then◌else◌, same_Some, Program, Chooser, Ask, Entry, WellFormed, State, needs, Config, is_running, machine_step, Look, Own, thread_step, Next, Picked, EndsBy, LiesBehind, asked_entry, enabled_entry, entry_at, entry_from, entry_in, entry_with, given, is_surplus, missing_code, within_limits, Turn}
use Rattle.mr_base.specs.declared.thread.Status.TheVariants.{Enabled}
use Rattle.mr_start.specs.MemMemory.{ranges_of}
use Rattle.mr_sched.specs.Rules.{code_of}
use Rattle.mr_start.specs.SyncTables.{is_enabled}
use Rattle.mr_step.specs.PlanLegal.{Fault, count_of, creation_fault, else_fault, fault, needs_fault, picks_fault, state_fault, status_fault}
use Rattle.mr_step.specs.PlanMachine.{Bare, Completed, Goes, IllFormedStep, Needs, Stops, bare}
use Rattle.mr_step.specs.PlanNotes.{Notes}
use Rattle.mr_step.specs.PlanRuns.{after_bare, entry_fault, fault_in, stepped_from}
use Rattle.mr_step.proofs.PlanElementLaws.{Contains-nil}
use Rattle.mr_start.specs.FrameFits.{IsLook}
use Rattle.mr_start.proofs.RunSound.{entry_sound}
use Rattle.mr_start.specs.SoundState.{IsSoundConfig, SoundState}
use Rattle.mr_step.proofs.ExchangeSane.{sound_is_sane}
use Rattle.mr_step.proofs.ExchangeTelling.{thread_step_tells}
use Rattle.mr_step.specs.SwapMeets.{AreNewIn, IsTaken, addresses}
use Rattle.mr_step.proofs.SwapBareSteps.{needs_are, taken, whole, whole_run}
use Rattle.mr_step.proofs.SwapMeetsLaws.{legal_of_meets, step_only}
use Rattle.mr_step.proofs.SwapStepRuns.{memory_of}
use Rattle.mr_step.proofs.EntryLaws.{enabled_is}
use Rattle.mr_auto.proofs.Picks.{ArePicks}
use Rattle.mr_fill.proofs.GivenPicks.{given_are}
use Rattle.mr_sched.specs.declared.rule.ScheduleRule.TheVariants as rule

-- ---- the entry of a turn, taken apart

pub record TakenIn (look : Look) (s : State Own) (c : Chooser) (turn : Turn) (next : Next) : Type 0 where
  pub enabled : slice_get s.shared.statuses turn.thread ≡ Some Enabled
  pub room : creation_fault s.shared (needs (thread_step look) s turn.thread).creates ≡ None
  pub picks : Picked
  pub are : given s.shared.statuses turn.receiver c (needs (thread_step look) s turn.thread).asks ≡ Some picks
  pub is : next ≡ record { entry = record { thread = turn.thread; picks = picks.picks }; chooser = picks.chooser }

-- what the step of a turn asks for
abbrev asked_of : Look → State Own → Turn → List Ask
asked_of look s turn = (needs (thread_step look) s turn.thread).asks

pub taken_in : (look : Look) (s : State Own) (c : Chooser) (turn : Turn) (next : Next) → entry_in look s c turn ≡ Ok next → TakenIn look s c turn next
taken_in look s c turn next h = by_status (is_enabled (slice_get s.shared.statuses turn.thread)) refl h
  where
    by_picks : is_enabled (slice_get s.shared.statuses turn.thread) ≡ true → creation_fault s.shared (needs (thread_step look) s turn.thread).creates ≡ None
        → (o : Option Picked) → given s.shared.statuses turn.receiver c (asked_of look s turn) ≡ o → entry_with turn.thread (asked_of look s turn) o ≡ Ok next → TakenIn look s c turn next
    by_picks on room None are k = absurd (cc)
    by_picks on room (Some r) are k = record {
      enabled = enabled_is (slice_get s.shared.statuses turn.thread) on;
      room = room;
      picks = r;
      are = are;
      is = cc;
    }

    by_surplus : is_enabled (slice_get s.shared.statuses turn.thread) ≡ true → creation_fault s.shared (needs (thread_step look) s turn.thread).creates ≡ None
        → (b : Bool) → (if b then Err (code_of rule.ExtraPick) else entry_with turn.thread (asked_of look s turn) (given s.shared.statuses turn.receiver c (asked_of look s turn))) ≡ Ok next → TakenIn look s c turn next
    by_surplus on room true k = absurd (cc)
    by_surplus on room false k = by_picks on room (given s.shared.statuses turn.receiver c (asked_of look s turn)) refl k

    by_room : is_enabled (slice_get s.shared.statuses turn.thread) ≡ true → (f : Option Fault) → creation_fault s.shared (needs (thread_step look) s turn.thread).creates ≡ f
        → within_limits f (asked_entry s.shared.statuses c turn (asked_of look s turn)) ≡ Ok next → TakenIn look s c turn next
    by_room on None room k = by_surplus on room (is_surplus turn.receiver (asked_of look s turn)) k
    by_room on (Some f) room k = absurd (cc)

    by_status : (b : Bool) → is_enabled (slice_get s.shared.statuses turn.thread) ≡ b → (if b then enabled_entry look s c turn else Err (code_of rule.NotEnabled)) ≡ Ok next → TakenIn look s c turn next
    by_status true on k = by_room on (creation_fault s.shared (needs (thread_step look) s turn.thread).creates) refl k
    by_status false on k = absurd (cc)

-- the machine that runs, and its state
pub record TakenAt (look : Look) (c : Config Own) (chooser : Chooser) (turn : Turn) (next : Next) : Type 0 where
  pub running : is_running c.verdict ≡ true
  pub state : State Own
  pub there : c.state ≡ Some state
  pub turned : TakenIn look state chooser turn next

pub taken_at : (look : Look) (c : Config Own) (chooser : Chooser) (turn : Turn) (next : Next) → entry_at look c chooser turn ≡ Ok next → TakenAt look c chooser turn next
taken_at look c chooser turn next h = by_verdict (is_running c.verdict) refl h
  where
    by_state : is_running c.verdict ≡ true → (o : Option (State Own)) → c.state ≡ o → entry_from look chooser turn o ≡ Ok next → TakenAt look c chooser turn next
    by_state running None e k = absurd (cc)
    by_state running (Some s) e k = record { running = running; state = s; there = e; turned = taken_in look s chooser turn next k }

    by_verdict : (b : Bool) → is_running c.verdict ≡ b → (if b then entry_from look chooser turn c.state else Err (code_of rule.AfterStop)) ≡ Ok next → TakenAt look c chooser turn next
    by_verdict true e k = by_state e c.state refl k
    by_verdict false e k = absurd (cc)

-- ---- addresses to come

module _ (look : Look) (s : State Own) (c : Chooser) (turn : Turn) (next : Next) (d : TakenIn look s c turn next) (pos : 0 < c.next) (behind : (q : ℕ × ℕ) → IsTaken (ranges_of s.shared.memory) q → EndsBy c.next q) where
  abbrev asks : List Ask
  asks = (needs (thread_step look) s turn.thread).asks

  pub taken_picks : ArePicks s.shared.statuses (ranges_of s.shared.memory) [] c asks d.picks
  taken_picks = given_are s.shared.statuses (ranges_of s.shared.memory) [] turn.receiver c asks d.picks d.are pos behind (λ q k. absurd (Contains-nil q k))

  -- no rule is broken
  pub taken_legal : state_fault (thread_step look) s turn.thread d.picks.picks ≡ None
  taken_legal =
      let n = needs (thread_step look) s turn.thread in
      let count = count_of (slice_get s.threads turn.thread) in
      ap (λ o. else_fault (status_fault o) (needs_fault s.shared turn.thread count n d.picks.picks)) d.enabled
      ∙ ap (λ o. else_fault o (picks_fault s.shared.statuses (ranges_of s.shared.memory) turn.thread count n.asks d.picks.picks)) d.room
      ∙ legal_of_meets s.shared.statuses (ranges_of s.shared.memory) turn.thread count n.asks d.picks.picks taken_picks.meets

  -- behind the step memory has what it had, and what was picked
  module _ (program : Program) (sound : SoundState program s) where
    pub taken_behind : (n : Notes) (s' : State Own) → bare (thread_step look) s turn.thread d.picks.picks ≡ Completed n s' → (q : ℕ × ℕ) → IsTaken (ranges_of s'.shared.memory) q → EndsBy d.picks.chooser.next q
    taken_behind n s' e q h =
        let k = taken (thread_step look) s turn.thread d.picks.picks n s' e in
        let told = (thread_step_tells look).told k.th.own s.shared k.mid s'.shared turn.thread k.th.count k.noted n k.plan d.picks.picks k.own k.started k.first k.second in
        let needed = needs_are (thread_step look) s turn.thread k.th k.plan (k.mid, k.noted) k.here k.first in
        let sane = sound_is_sane program s sound in
        let new : AreNewIn s.shared.memory turn.thread k.th.count = λ id a there is. sane.counted id a there k.th (ap (slice_get s.threads) is ∙ k.here) in
        let facts = memory_of (whole (thread_step look) k.th.own d.picks.picks) s.shared s'.shared turn.thread k.th.count n (Goes k.own k.started) (whole_run (thread_step look) s turn.thread d.picks.picks n s' k) new in
        let ranges : n.tally.ranges ≡ addresses asks d.picks.picks = told.allocates ∙ ap (λ (m : Needs). addresses m.asks d.picks.picks) (sym needed) in
        elim (step_only s.shared.memory turn.thread k.th.count s'.shared.memory n.tally facts q h) [
          | inl old ↦ let low = behind q old in let up = taken_picks.grows in omega arith
          | inr made ↦ taken_picks.ends q (subst (λ rs. Contains rs q) ranges made)
        ]

-- ---- one entry

module _ (look : Look) (is : IsLook look) (well : WellFormed look.program) (c : Config Own) (chooser : Chooser) (turn : Turn) (next : Next)
    (sound : IsSoundConfig look.program c) (lies : LiesBehind c chooser) (d : TakenAt look c chooser turn next) where
  abbrev s : State Own
  s = d.state

  abbrev entry : Entry
  entry = record { thread = turn.thread; picks = d.turned.picks.picks }

  legal_here : entry_fault (thread_step look) c entry ≡ None
  unfolding entry_fault
  legal_here =
      ap (λ (b : Bool). if b then fault_in (thread_step look) entry.thread entry.picks c.state else fault rule.AfterStop) d.running
      ∙ ap (fault_in (thread_step look) entry.thread entry.picks) d.there
      ∙ taken_legal look s chooser turn next d.turned lies.positive (lies.behind s d.there)

  -- IT BREAKS NO RULE
  pub entry_legal : entry_fault (thread_step look) c next.entry ≡ None
  entry_legal = ap (λ (x : Next). entry_fault (thread_step look) c x.entry) d.turned.is ∙ legal_here

  by_bare : (b : Bare Own) → bare (thread_step look) s entry.thread entry.picks ≡ b → (x : State Own) → (after_bare (thread_step look) c b).state ≡ Some x
      → (q : ℕ × ℕ) → IsTaken (ranges_of x.shared.memory) q → EndsBy d.turned.picks.chooser.next q
  by_bare (Completed n s') e x h q k =
      taken_behind look s chooser turn next d.turned lies.positive (lies.behind s d.there) look.program (sound s d.there) n s' e q
      (subst (λ (y : State Own). IsTaken (ranges_of y.shared.memory) q) (sym (same_Some s' x h)) k)
  by_bare (Stops v about) e x h q k = absurd (cc)
  by_bare IllFormedStep e x h q k = absurd (cc)

  lies_here : LiesBehind (machine_step (thread_step look) c entry) d.turned.picks.chooser
  unfolding machine_step
  lies_here = record {
    positive = (let up = (taken_picks look s chooser turn next d.turned lies.positive (lies.behind s d.there)).grows in let low = lies.positive in omega arith);
    behind = λ x h. by_bare (bare (thread_step look) s entry.thread entry.picks) refl x (sym (ap (λ (o : Option (State Own)). (stepped_from (thread_step look) c entry.thread entry.picks o).state) d.there) ∙ h);
  }

  -- and all lies behind the machine's memory again
  pub entry_lies : LiesBehind (machine_step (thread_step look) c next.entry) next.chooser
  entry_lies = subst (λ (x : Next). LiesBehind (machine_step (thread_step look) c x.entry) x.chooser) (sym d.turned.is) lies_here

  pub entry_keeps : IsSoundConfig look.program (machine_step (thread_step look) c next.entry)
  entry_keeps = (entry_sound look is well c next.entry sound entry_legal).1
