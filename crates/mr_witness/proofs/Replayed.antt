-- Moves as a run of entries: each but the last goes, and behind the last the machine reports the data race.
use Rattle.mr_witness.proofs.Common.{◌≡◌, ℕ, suc, zero, ◌+◌, refl, sym, ◌∙◌, ap, subst, inl, inr, List, [], ◌∷◌, ◌++◌, map, Bool, true, false, not, ◌&&◌, Option, Some, None, ◌==◌, slice_get, list_any, both_ways, cases_Bool, eqb-true, eq-eqb, some_race, DataRace, Footprint, wakes, step_at, thread_at, IsReported, Runs, Entry, WellFormed, state_fault, Bare, Language, State, bare, AreLegal, Config, Printed, after, after_bare, feet, foot_in, foot_of_bare, machine_step, entry_fault, printed_by, races_with, verdict_after, IsLook, Look, SoundState, Own, thread_step, IsSane, SwapLaw, NotesThread, entry_at}
use Rattle.std.specs.Prelude.{◌||◌}
use Rattle.mr_base.specs.declared.thread.Status.{Status}
use Rattle.mr_base.specs.declared.thread.Status.TheVariants.{Enabled, Ended, OnJoin, OnLock}
use Rattle.mr_exchange.specs.Shown.{AreAdjacent, NextIs}
use Rattle.mr_exchange.specs.SyncTables.{is_any_enabled, is_enabled}
use Rattle.mr_witness.specs.PlanLegal.{status_fault}
use Rattle.mr_witness.specs.PlanQueries.{tables_of}
use Rattle.mr_base.specs.declared.reason.Verdict.TheVariants as verdict
use Rattle.mr_witness.proofs.PlanLegalLaws.{no_faults}
use Rattle.mr_witness.proofs.Moves.{Kept, Takes, machine}
use Rattle.mr_witness.proofs.Recorded.{config}

-- ---- the race check on recorded steps

-- what the machine tests is what is reported
race_there : (a b : Bool) (c : Bool) → (not a && (not b && c)) ≡ true → (a ≡ false) × (b ≡ false) × (c ≡ true)
race_there true b c h = absurd (cc)
race_there false true c h = absurd (cc)
race_there false false c h = (refl, refl, h)

pub unreported : (run : List Footprint) (x y : ℕ) → (IsReported run x y → ⊥) → races_with (step_at run y) (Some (step_at run x)) ≡ false
unreported run x y none =
    elim (cases_Bool (races_with (step_at run y) (Some (step_at run x)))) [
      | inl e ↦
          let parts = race_there (thread_at run x == thread_at run y) (wakes (step_at run x) (thread_at run y)) _ e in
          absurd (none (record {
            apart = λ same. both_ways _ parts.0 (eq-eqb (thread_at run x) (thread_at run y) same);
            race = parts.2;
            asleep = parts.1;
          }))
      | inr e ↦ e
    ]

pub reported : (run : List Footprint) (x y : ℕ) → IsReported run x y → races_with (step_at run y) (Some (step_at run x)) ≡ true
reported run x y h = by (thread_at run x == thread_at run y) refl
  where
    by : (b : Bool) → (thread_at run x == thread_at run y) ≡ b → (not b && (not (wakes (step_at run x) (thread_at run y)) && some_race (step_at run x).accesses (step_at run y).accesses)) ≡ true
    by true e = absurd (h.apart (eqb-true (thread_at run x) (thread_at run y) e))
    by false e = rw h.asleep h.race

-- no step is reported behind the one before it, the first behind such a step or none
abbrev pub AreCalm : List Footprint → Option Footprint → List ℕ → Type 0
AreCalm run last [] = Unit {0}
AreCalm run last (x ∷ xs) = (races_with (step_at run x) last ≡ false) × AreCalm run (Some (step_at run x)) xs

calm_behind : (run : List Footprint) (x : ℕ) (xs : List ℕ) → NextIs (λ x y. IsReported run x y → ⊥) x xs → AreAdjacent (λ x y. IsReported run x y → ⊥) xs → AreCalm run (Some (step_at run x)) xs
calm_behind run x [] next h = tt
calm_behind run x (y ∷ ys) next h = (unreported run x y next, calm_behind run y ys h.0 h.1)

pub calm_from : (run : List Footprint) (xs : List ℕ) → AreAdjacent (λ x y. IsReported run x y → ⊥) xs → AreCalm run None xs
calm_from run [] h = tt
calm_from run (x ∷ xs) h = (refl, calm_behind run x xs h.0 h.1)

-- the last step of some, or the one before them
abbrev pub last_of : List Footprint → Option Footprint → List ℕ → Option Footprint
last_of run last [] = last
last_of run last (x ∷ xs) = last_of run (Some (step_at run x)) xs

pub last_push : (run : List Footprint) (last : Option Footprint) (xs : List ℕ) (x : ℕ) → last_of run last (xs ++ x ∷ []) ≡ Some (step_at run x)
last_push run last [] x = refl
last_push run last (y ∷ ys) x = last_push run (Some (step_at run y)) ys x

-- ---- a thread is enabled

pub enabled_among : (ss : List Status) (t : ℕ) → slice_get ss t ≡ Some Enabled → list_any (λ s. is_enabled (Some s)) ss ≡ true
enabled_among [] t h = absurd (cc)
enabled_among (s ∷ ss) zero h = by s h
  where
    by : (s : Status) → Some s ≡ Some Enabled → (is_enabled (Some s) || list_any (λ s. is_enabled (Some s)) ss) ≡ true
    by Enabled k = refl
    by (OnJoin u) k = absurd (cc)
    by (OnLock l) k = absurd (cc)
    by Ended k = absurd (cc)
enabled_among (s ∷ ss) (suc t) h = by (is_enabled (Some s)) (enabled_among ss t h)
  where
    by : (b : Bool) → list_any (λ s. is_enabled (Some s)) ss ≡ true → (b || list_any (λ s. is_enabled (Some s)) ss) ≡ true
    by true k = refl
    by false k = k

pub status_there : (o : Option Status) → status_fault o ≡ None → o ≡ Some Enabled
status_there None h = absurd (cc)
status_there (Some Enabled) h = refl
status_there (Some (OnJoin u)) h = absurd (cc)
status_there (Some (OnLock l)) h = absurd (cc)
status_there (Some Ended) h = absurd (cc)

-- where an entry breaks no rule of the state, some thread is enabled
pub legal_enabled : {L : Type 0} (step : Language L) (s : State L) (t : ℕ) (picks : List ℕ) → state_fault step s t picks ≡ None → is_any_enabled (tables_of s.shared) ≡ true
legal_enabled step s t picks h = enabled_among s.shared.statuses t (status_there (slice_get s.shared.statuses t) (no_faults _ _ h).0)

-- ---- the run

-- Where a running machine stands behind some moves: it is running, each entry was legal, its steps are the recorded ones,
-- and the entry of one more breaks no rule and completes as that step.
pub record Replays (look : Look) (es : List Entry) (run : List Footprint) (c : Config Own) (last : Option Footprint) (xs : List ℕ) (j : ℕ) : Type 0 where
  pub state : State Own
  pub output : List Printed
  pub completed : ℕ
  pub is : after (thread_step look) c (map (entry_at es) xs) ≡ config state output (last_of run last xs) completed verdict.Running
  pub legal : AreLegal (thread_step look) c (map (entry_at es) xs)
  pub steps : feet (thread_step look) c (map (entry_at es) xs) ≡ map (step_at run) xs
  pub goal_state : State Own
  pub takes : Takes look es run state j goal_state

module _ (look : Look) (is : IsLook look) (well : WellFormed look.program) (es : List Entry) (run : List Footprint) (law : SwapLaw (thread_step look)) (noted : NotesThread look) (sane : (s : State Own) → SoundState look.program s → IsSane s) where
  abbrev Moves : Kept look is well es run law noted sane → List ℕ → Kept look is well es run law noted sane → Type 0
  Moves a ks b = Runs (machine look is well es run law noted sane) a ks b

  -- behind some steps there is one more, whose thread is enabled
  next_enabled : (a b : Kept look is well es run law noted sane) (xs : List ℕ) (j : ℕ) → Moves a (xs ++ j ∷ []) b → is_any_enabled (tables_of a.0.shared) ≡ true
  next_enabled a b [] j h = legal_enabled (thread_step look) a.0 _ _ h.1.legal
  next_enabled a b (x ∷ xs) j h = legal_enabled (thread_step look) a.0 _ _ h.1.legal

  -- the verdict behind a step that isn't reported, where a thread is enabled
  running_still : (last : Option Footprint) (f : Footprint) (s : State Own) → races_with f last ≡ false → is_any_enabled (tables_of s.shared) ≡ true → verdict_after last f s ≡ verdict.Running
  running_still last f s calm on = rw calm (rw on refl)

  -- ALL STEPS BUT THE LAST GO
  pub replayed : (xs : List ℕ) (j : ℕ) (a b : Kept look is well es run law noted sane) (output : List Printed) (last : Option Footprint) (completed : ℕ)
      → AreCalm run last xs → Moves a (xs ++ j ∷ []) b → Replays look es run (config a.0 output last completed verdict.Running) last xs j
  unfolding machine_step entry_fault
  replayed [] j a b output last completed calm h = record {
    state = a.0;
    output = output;
    completed = completed;
    is = refl;
    legal = tt;
    steps = refl;
    goal_state = h.0.0;
    takes = h.1;
  }
  replayed (x ∷ xs) j a b output last completed calm h =
      let step = thread_step look in
      let e = entry_at es x in
      let f = h.1 in
      let u = h.0 in
      let foot : foot_in (thread_step look) f.notes u.0 ≡ step_at run x = f.foot in
      let printed = output ++ map (printed_by f.notes.tally.thread) f.notes.printed in
      let quiet : races_with (foot_in (thread_step look) f.notes u.0) last ≡ false = (λ k. races_with (foot k) last) ∙ calm.0 in
      let verdict_is : verdict_after last (foot_in (thread_step look) f.notes u.0) u.0 ≡ verdict.Running = running_still last (foot_in (thread_step look) f.notes u.0) u.0 quiet (next_enabled u b xs j h.2) in
      let here : Config Own = config a.0 output last completed verdict.Running in
      let there : Config Own = config u.0 printed (Some (step_at run x)) (completed + 1) verdict.Running in
      let gone : after_bare (thread_step look) here (bare step a.0 e.thread e.picks) ≡ there =
      ap (after_bare (thread_step look) here) f.completes ∙ (λ k. config u.0 printed (Some (foot k)) (completed + 1) (verdict_is k)) in
      let later = replayed xs j u b printed (Some (step_at run x)) (completed + 1) calm.1 h.2 in
      let told : foot_of_bare step (bare step a.0 e.thread e.picks) ≡ step_at run x ∷ [] = ap (foot_of_bare step) f.completes ∙ ap (λ (g : Footprint). g ∷ []) foot in
      record {
        state = later.state;
        output = later.output;
        completed = later.completed;
        is = (λ k. after step (gone k) (map (entry_at es) xs)) ∙ later.is;
        legal = (f.legal, subst (λ (c : Config Own). AreLegal step c (map (entry_at es) xs)) (sym gone) later.legal);
        steps = (λ k. told k ++ feet step (gone k) (map (entry_at es) xs)) ∙ ap (λ (l : List Footprint). step_at run x ∷ l) later.steps;
        goal_state = later.goal_state;
        takes = later.takes;
      }

  -- THE LAST ONE is reported
  pub last_reported : (s t : State Own) (output : List Printed) (i j completed : ℕ) → IsReported run i j → Takes look es run s j t
      → (machine_step (thread_step look) (config s output (Some (step_at run i)) completed verdict.Running) (entry_at es j)).verdict ≡ verdict.Undefined DataRace
  unfolding machine_step
  last_reported s t output i j completed h f =
      let here : Config Own = config s output (Some (step_at run i)) completed verdict.Running in
      let race : races_with (foot_in (thread_step look) f.notes t) (Some (step_at run i)) ≡ true = (λ k. races_with (f.foot k) (Some (step_at run i))) ∙ reported run i j h in
      ap (λ (b : Bare Own). (after_bare (thread_step look) here b).verdict) f.completes ∙ rw race refl
