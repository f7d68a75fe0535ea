-- Drawing one entry more.
use Rattle.mr_auto.proofs.Common.{◌≡◌, ℕ, suc, ◌+◌, ◌-◌, ◌<◌, ◌≤◌, refl, sym, ap, ◌∙◌, subst, arith, List, [], ◌∷◌, ◌++◌, length, append-nil, append_assoc, Bool, true, false, not, Option, Some, None, slice_get, if◌then◌else◌, Chooser, Entry, Bare, Completed, Goes, IllFormedStep, State, Stops, bare, Config, after, after_bare, feet, is_running, machine_step, stepped_from, Look, Own, thread_step, Standing, NextAnswer, Next, drawn_entries, led, next_at, BeginsDrawing, DrawnAfter, drawn_from_here}
use Rattle.std.proofs.Common.{length-append}
use Rattle.mr_base.specs.declared.reached.Reached.{Reached}
use Rattle.mr_base.specs.declared.reason.Verdict.{Verdict}
use Rattle.mr_run.specs.EventFootprint.{Footprint}
use Rattle.mr_start.specs.MemMemory.{leaks}
use Rattle.mr_base.specs.Script.{Broken, Outcome, Refused, Went}
use Rattle.mr_run.specs.StepPlanMachine.{Aborts, Exits, Flow, Language, Thread, acted, settled}
use Rattle.mr_run.specs.StepPlanNotes.{Notes}
use Rattle.mr_run.specs.StepPlanQueries.{Shared}
use Rattle.mr_run.specs.StepPlanRuns.{foot_from, has_rule, is_ill_formed}
use Rattle.mr_run.proofs.StepPlanRunLaws.{completed_by_step}
use Rattle.mr_start.specs.Runs.{program_fault, program_step}
use Rattle.mr_run.specs.Runs.{IsMade, foot_by}
use Rattle.mr_run.proofs.EntryLaws.{one_foot}
use Rattle.mr_auto.specs.Answers.{HasState}
use Rattle.mr_base.specs.declared.reason.Verdict.TheVariants as verdict
use Rattle.mr_auto.proofs.Steps.{drawn_at, next_legal, next_lies, next_sound}

-- ---- a machine that runs on has a state

exit_stops : (b : Bool) → is_running (if b then verdict.Leak else verdict.Exit) ≡ false
exit_stops true = refl
exit_stops false = refl

-- the verdict of a step that stops, else this one
abbrev stop_of : Bare Own → Verdict → Verdict
stop_of (Completed n s) other = other
stop_of (Stops v about) other = v
stop_of IllFormedStep other = other

runs_alike : (b : Bare Own) (v : Verdict) (about : Option Reached) → b ≡ Stops v about → is_running (stop_of b v) ≡ is_running v
runs_alike b v about h = ap (λ (x : Bare Own). is_running (stop_of x v)) h

settled_stops : (s : State Own) (t : ℕ) (o : Outcome (Flow Own) (Shared × Notes)) (v : Verdict) (about : Option Reached) → settled s t o ≡ Stops v about → is_running v ≡ false
settled_stops s t (Went (Goes own started) w) v about h = absurd (cc)
settled_stops s t (Went Exits w) v about h = sym (runs_alike (settled s t (Went Exits w)) v about h) ∙ exit_stops (leaks w.0.memory)
settled_stops s t (Went Aborts w) v about h = sym (runs_alike (settled s t (Went Aborts w)) v about h)
settled_stops s t (Refused r) v about h = sym (runs_alike (settled s t (Refused r)) v about h)
settled_stops s t Broken v about h = absurd (cc)

acted_stops : (step : Language Own) (s : State Own) (t : ℕ) (picks : List ℕ) (o : Option (Thread Own)) (v : Verdict) (about : Option Reached) → acted step s t picks o ≡ Stops v about → is_running v ≡ false
acted_stops step s t picks None v about h = absurd (cc)
acted_stops step s t picks (Some th) v about h = settled_stops s t _ v about h

module _ (look : Look) (c : Config Own) (e : Entry) (s : State Own) (there : c.state ≡ Some s) (rule : has_rule (thread_step look) e.thread e.picks c.state ≡ true) where
  by_bare : (b : Bare Own) → bare (thread_step look) s e.thread e.picks ≡ b → not (is_ill_formed b) ≡ true → HasState (after_bare (thread_step look) c b)
  by_bare (Completed n s') is k running = (s', refl)
  by_bare (Stops v about) is k running =
      let stops = acted_stops (thread_step look) s e.thread e.picks (slice_get s.threads e.thread) v about is in
      let runs : is_running v ≡ true = running in
      absurd (cc)
  by_bare IllFormedStep is k running = absurd (cc)

  pub state_behind : HasState (machine_step (thread_step look) c e)
  unfolding machine_step
  state_behind =
      subst (λ (o : Option (State Own)). HasState (stepped_from (thread_step look) c e.thread e.picks o)) (sym there)
      (by_bare (bare (thread_step look) s e.thread e.picks) refl (sym (ap (has_rule (thread_step look) e.thread e.picks) there) ∙ rule))

-- ---- runs by one entry more

pub after_more : {L : Type 0} (step : Language L) (c : Config L) (es : List Entry) (e : Entry) → after step c (es ++ e ∷ []) ≡ machine_step step (after step c es) e
after_more step c [] e = refl
after_more step c (d ∷ es) e = after_more step (machine_step step c d) es e

pub feet_more : {L : Type 0} (step : Language L) (c : Config L) (es : List Entry) (e : Entry) → feet step c (es ++ e ∷ []) ≡ feet step c es ++ foot_from step e.thread e.picks (after step c es).state
feet_more step c [] e = append-nil (foot_from step e.thread e.picks c.state)
feet_more step c (d ∷ es) e =
    ap (λ l. foot_from step d.thread d.picks c.state ++ l) (feet_more step (machine_step step c d) es e)
    ∙ sym (append_assoc (foot_from step d.thread d.picks c.state) (feet step (machine_step step c d) es) (foot_from step e.thread e.picks (after step (machine_step step c d) es).state))

-- ---- entries that were drawn so far

pub record DrawnSo (most i : ℕ) (old : Standing) (first : Chooser) (m : Standing) (c : Chooser) (was is : List Entry) (steps : List Footprint) : Type 0 where
  pub begins : BeginsDrawing m c
  pub es : List Entry
  pub look : m.look ≡ old.look
  pub rest : drawn_entries old.look most old.config first ≡ es ++ drawn_entries old.look (most - i) m.config c
  pub entries : is ≡ was ++ es
  pub config : m.config ≡ after (thread_step old.look) old.config es
  pub are : steps ≡ feet (thread_step old.look) old.config es
  pub few : m.config.completed ≤ old.config.completed + i
  pub room : length steps ≤ i

pub so_begins : (most : ℕ) (old : Standing) (first : Chooser) (was : List Entry) → BeginsDrawing old first → DrawnSo most 0 old first old first was was []
so_begins most old first was begins = record {
  begins = begins;
  es = [];
  look = refl;
  rest = ap (λ n. drawn_entries old.look n old.config first) (omega arith);
  entries = sym (append-nil was);
  config = refl;
  are = refl;
  few = omega arith;
  room = omega arith;
}

module _ (most i : ℕ) (old : Standing) (first : Chooser) (m : Standing) (c : Chooser) (was is : List Entry) (steps : List Footprint) (so : DrawnSo most i old first m c was is steps) where
  -- there were so many
  pub none_more : most - i ≡ 0 → drawn_entries old.look (most - i) m.config c ≡ []
  none_more z = ap (λ n. drawn_entries old.look n m.config c) z

  -- there is no next entry
  pub none_next : i < most → (c' : Chooser) → NextAnswer (next_at m.look m.config c) None c' → drawn_entries old.look (most - i) m.config c ≡ []
  none_next lt c' none =
      let left : most - i ≡ suc (most - (i + 1)) = omega arith in
      ap (λ n. drawn_entries old.look n m.config c) left
      ∙ ap (λ o. led o (λ next. drawn_entries old.look (most - (i + 1)) (program_step old.look m.config next.entry) next.chooser)) (ap (λ (l : Look). next_at l m.config c) (sym so.look) ∙ none)

  -- where nothing more is drawn, all is
  all_drawn : drawn_entries old.look (most - i) m.config c ≡ [] → so.es ≡ drawn_from_here most old first
  all_drawn none = sym (so.rest ∙ ap (λ l. so.es ++ l) none ∙ append-nil so.es)

  pub so_ends : drawn_entries old.look (most - i) m.config c ≡ [] → DrawnAfter most old first m was is
  so_ends none = record {
    entries = so.entries ∙ ap (λ l. was ++ l) (all_drawn none);
    working = so.begins.working;
    look = so.look;
    config = so.config ∙ ap (after (thread_step old.look) old.config) (all_drawn none);
  }

  -- and so are the steps
  pub so_feet : drawn_entries old.look (most - i) m.config c ≡ [] → steps ≡ feet (thread_step old.look) old.config (drawn_from_here most old first)
  so_feet none = so.are ∙ ap (feet (thread_step old.look) old.config) (all_drawn none)

  module _ (entry : Entry) (c' : Chooser) (drawn : NextAnswer (next_at m.look m.config c) (Some entry) c') where
    abbrev next : Next
    next = record { entry = entry; chooser = c' }

    -- it breaks no rule
    pub so_legal : program_fault m.look m.config entry ≡ None
    so_legal = next_legal m.look so.begins.look so.begins.well m.config c next so.begins.sound so.begins.lies (drawn_at m.look m.config c next drawn)

    -- and behind its step one more is drawn
    pub so_more : i < most → (m' : Standing) (is' : List Entry) → IsMade entry m m' → is' ≡ is ++ entry ∷ [] → DrawnSo most (i + 1) old first m' c' was is' (steps ++ foot_by entry m)
    so_more lt m' is' made pushed =
        let d = drawn_at m.look m.config c next drawn in
        let config : m'.config ≡ program_step m.look m.config entry = ap (λ (x : Standing). x.config) made.after in
        let same : m'.look ≡ m.look = ap (λ (x : Standing). x.look) made.after in
        let left : most - i ≡ suc (most - (i + 1)) = omega arith in
        let by_step = completed_by_step (thread_step m.look) m.config entry in
        let few = so.few in
        let count : m'.config.completed ≡ (program_step m.look m.config entry).completed = ap (λ (x : Config Own). x.completed) config in
        record {
          begins = subst (λ (x : Standing). BeginsDrawing x c') (sym made.after)
              (record {
                working = refl;
                state = state_behind m.look m.config entry d.state d.there made.has_rule;
                look = so.begins.look;
                well = so.begins.well;
                sound = next_sound m.look so.begins.look so.begins.well m.config c next so.begins.sound so.begins.lies d;
                lies = next_lies m.look so.begins.look so.begins.well m.config c next so.begins.sound so.begins.lies d;
              });
          es = so.es ++ entry ∷ [];
          look = same ∙ so.look;
          rest =
              so.rest
              ∙ ap (λ l. so.es ++ l)
              (ap (λ n. drawn_entries old.look n m.config c) left
              ∙ ap (λ o. led o (λ next. drawn_entries old.look (most - (i + 1)) (program_step old.look m.config next.entry) next.chooser)) (ap (λ (l : Look). next_at l m.config c) (sym so.look) ∙ drawn)
              ∙ ap (λ (k : Config Own). entry ∷ drawn_entries old.look (most - (i + 1)) k c') (ap (λ (l : Look). program_step l m.config entry) (sym so.look) ∙ sym config))
              ∙ sym (append_assoc so.es (entry ∷ []) (drawn_entries old.look (most - (i + 1)) m'.config c'));
          entries = pushed ∙ ap (λ l. l ++ entry ∷ []) so.entries ∙ append_assoc was so.es (entry ∷ []);
          config =
              config ∙ ap (λ (l : Look). program_step l m.config entry) so.look ∙ ap (λ (k : Config Own). program_step old.look k entry) so.config
              ∙ sym (after_more (thread_step old.look) old.config so.es entry);
          are =
              ap (λ (l : Look). steps ++ foot_from (thread_step l) entry.thread entry.picks m.config.state) so.look
              ∙ ap (λ (k : Config Own). steps ++ foot_from (thread_step old.look) entry.thread entry.picks k.state) so.config
              ∙ ap (λ l. l ++ foot_from (thread_step old.look) entry.thread entry.picks (after (thread_step old.look) old.config so.es).state) so.are
              ∙ sym (feet_more (thread_step old.look) old.config so.es entry);
          few = omega arith;
          room = omega (arith, so.room, length-append steps (foot_by entry m), one_foot entry m);
        }
