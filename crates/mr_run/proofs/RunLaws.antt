-- Entries that are taken one after another, and the whole run.
use Rattle.mr_run.proofs.Common.{◌≡◌, ℕ, ◌+◌, refl, sym, ap, ◌∙◌, subst, List, [], ◌∷◌, ◌++◌, false, suc, ◌<◌, ◌≤◌, arith, length, length-append, append-nil, Some, None, Option, Ok, Err, Program, Footprint, Entry, Schedule, AreLegal, Config, feet, foot_from, Look, Own, thread_step, PlacedFault, at_line, entries_fault, program_fault, program_step, schedule_fault, steps_of, look_of, start_config, Standing, EntryAnswer, IsMade, RunAnswer, foot_by, placed}
use Rattle.std.proofs.Common.{ap₂, drop, append_assoc}
use Rattle.std.proofs.Math.Seq.{drop-cons}
use Rattle.std.specs.Prelude.{get_or}
use Rattle.mr_step.specs.PlanLegal.{Fault}
use Rattle.mr_step.specs.PlanRuns.{after}
use Rattle.mr_step.proofs.PlanRunLaws.{completed_by_step}
use Rattle.mr_step.specs.StartRuns.{run_of}
use Rattle.mr_step.specs.declared.fault.StepFault.{StepFault}
use Rattle.mr_step.specs.Answers.{StartAnswer, fault_of}
use Rattle.mr_run.specs.declared.fault.RunFault.{RunFault}
use Rattle.mr_run.specs.declared.fault.RunFault.TheVariants.{Broken, Memory}
use Rattle.mr_run.specs.Runs.{AreTaken, EntriesAnswer}
use Rattle.mr_step.specs.declared.fault.StepFault.TheVariants as answer
use Rattle.mr_run.proofs.EntryLaws.{one_foot}

-- What stays true: the machine works, and what is left leads from where it stands to where all entries lead.
pub record IsUnderWay (first m : Standing) (steps : List Footprint) (at index : ℕ) (es : List Entry) : Type 0 where
  pub working : m.failed ≡ false
  pub look : m.look ≡ first.look
  pub place : at ≡ 3 + index
  pub completed : m.config.completed ≤ first.config.completed + index
  pub few : length steps ≤ index
  pub rest : steps ++ feet (thread_step first.look) m.config (drop index es) ≡ feet (thread_step first.look) first.config es
  pub ends : after (thread_step first.look) m.config (drop index es) ≡ after (thread_step first.look) first.config es
  pub legal : AreLegal (thread_step first.look) m.config (drop index es) → AreLegal (thread_step first.look) first.config es
  pub fault : entries_fault first.look m.config at (drop index es) ≡ entries_fault first.look first.config 3 es

pub sets_out : (first : Standing) (es : List Entry) → first.failed ≡ false → IsUnderWay first first [] 3 0 es
sets_out first es working = record {
  working = working;
  look = refl;
  place = refl;
  completed = omega arith;
  few = omega arith;
  rest = refl;
  ends = refl;
  legal = λ h. h;
  fault = refl;
}

module _ (first m : Standing) (steps : List Footprint) (place index : ℕ) (es : List Entry) (h : IsUnderWay first m steps place index es) where
  -- nothing is left
  pub all_taken : drop index es ≡ [] → AreTaken es first m
  all_taken d = record {
    legal = h.legal (subst (AreLegal (thread_step first.look) m.config) (sym d) tt);
    working = h.working;
    look = h.look;
    config = ap (λ (xs : List Entry). after (thread_step first.look) m.config xs) (sym d) ∙ h.ends;
  }

  pub all_steps : drop index es ≡ [] → steps ≡ feet (thread_step first.look) first.config es
  all_steps d = sym (append-nil steps) ∙ ap (λ (xs : List Entry). steps ++ feet (thread_step first.look) m.config xs) (sym d) ∙ h.rest

  module _ (e : Entry) (d : drop index es ≡ e ∷ drop (index + 1) es) where
    abbrev later : List Entry
    later = drop (index + 1) es

    -- the step of an entry is made
    pub goes_on : (new : Standing) → IsMade e m new → IsUnderWay first new (steps ++ foot_by e m) (place + 1) (index + 1) es
    goes_on new k = record {
      working = ap (λ (s : Standing). s.failed) k.after;
      look = ap (λ (s : Standing). s.look) k.after ∙ h.look;
      place = (let at = h.place in omega arith);
      completed =
          (let so_far = h.completed in
          let one = completed_by_step (thread_step first.look) m.config e in
          let same = ap (λ (c : Config Own). c.completed) config in
          omega (arith, so_far, one, same));
      few = omega (arith, h.few, one_foot e m, length-append steps (foot_by e m));
      rest =
          append_assoc steps (foot_by e m) (feet (thread_step first.look) new.config later)
          ∙ ap₂ (λ (fs : List Footprint) (c : Config Own). steps ++ (fs ++ feet (thread_step first.look) c later)) here config
          ∙ ap (λ (xs : List Entry). steps ++ feet (thread_step first.look) m.config xs) (sym d)
          ∙ h.rest;
      ends =
          ap (λ (c : Config Own). after (thread_step first.look) c later) config
          ∙ ap (λ (xs : List Entry). after (thread_step first.look) m.config xs) (sym d)
          ∙ h.ends;
      legal = λ more.
          h.legal
          (subst (AreLegal (thread_step first.look) m.config) (sym d)
          (unbroken, subst (λ (c : Config Own). AreLegal (thread_step first.look) c later) config more));
      fault =
          ap (λ (c : Config Own). entries_fault first.look c (place + 1) later) config
          ∙ sym (ap (λ (f : Option Fault). at_line place f (entries_fault first.look (program_step first.look m.config e) (place + 1) later)) unbroken)
          ∙ ap (λ (xs : List Entry). entries_fault first.look m.config place xs) (sym d)
          ∙ h.fault;
    }
      where
        config : new.config ≡ program_step first.look m.config e
        config = ap (λ (s : Standing). s.config) k.after ∙ ap (λ (l : Look). program_step l m.config e) h.look

        here : foot_by e m ≡ foot_from (thread_step first.look) e.thread e.picks m.config.state
        here = ap (λ (l : Look). foot_from (thread_step l) e.thread e.picks m.config.state) h.look

        unbroken : program_fault first.look m.config e ≡ None
        unbroken = subst (λ (l : Look). program_fault l m.config e ≡ None) h.look k.legal

    -- the entry breaks a rule
    pub breaks_here : (f : Fault) → program_fault m.look m.config e ≡ Some f → entries_fault first.look first.config 3 es ≡ Some (record { line = place; fault = f })
    breaks_here f k =
        sym h.fault
        ∙ ap (λ (xs : List Entry). entries_fault first.look m.config place xs) d
        ∙ ap (λ (o : Option Fault). at_line place o (entries_fault first.look (program_step first.look m.config e) (place + 1) later)) (subst (λ (l : Look). program_fault l m.config e ≡ Some f) h.look k)

    pub is_refused : (new : Standing) (fault : StepFault) → EntryAnswer e m new (Err fault) → EntriesAnswer es first new (Err (placed place fault))
    is_refused new (answer.BadEntry code earlier) k = breaks_here (fault_of code earlier) k.0
    is_refused new answer.Memory k = tt
    is_refused new answer.Failed k = absurd k

-- what is left at a position within the list
pub left_at : (es : List Entry) (i : ℕ) (e : Entry) → i < length es → e ≡ get_or es i e → drop i es ≡ e ∷ drop (i + 1) es
left_at es i e h is =
    let next : suc i ≡ i + 1 = omega arith in
    drop-cons es i e h ∙ ap (λ n. get_or es i e ∷ drop n es) next ∙ ap (λ x. x ∷ drop (i + 1) es) (sym is)

-- ---- the whole run

-- a machine at its start works, and has completed no step
pub begins : (p : Program) (picks : List ℕ) (m : Standing) → StartAnswer p picks (Ok m) → (m.failed ≡ false) × (m.config.completed ≡ 0)
unfolding start_config
begins p picks m h = (ap (λ (s : Standing). s.failed) h.1, ap (λ (s : Standing). s.config.completed) h.1)

module _ (p : Program) (w : Schedule) (picks : List ℕ) (es : List Entry) (first : picks ≡ w.start) (all : es ≡ w.entries) where
  -- the start line breaks a rule
  pub start_refused : (fault : StepFault) → StartAnswer p picks (Err fault) → RunAnswer p w (Err (placed 2 fault))
  unfolding schedule_fault
  start_refused fault h = by fault (subst (λ (xs : List ℕ). StartAnswer p xs (Err fault)) first h)
    where
      by : (f : StepFault) → StartAnswer p w.start (Err f) → RunAnswer p w (Err (placed 2 f))
      by (answer.BadEntry code earlier) h =
          ap (λ (o : Option Fault). at_line 2 o (entries_fault (look_of p w.start) (start_config p w.start) 3 w.entries)) h
      by answer.Memory h = tt
      by answer.Failed h = absurd h

  module _ (m : Standing) (h : StartAnswer p picks (Ok m)) where
    begun : StartAnswer p w.start (Ok m)
    begun = subst (λ (xs : List ℕ). StartAnswer p xs (Ok m)) first h

    -- all entries are taken
    pub run_taken : (new : Standing) → EntriesAnswer es m new (Ok tt) → RunAnswer p w (Ok new)
    unfolding run_of
    run_taken new a =
        let at = subst (λ (s : Standing). AreTaken w.entries s new) begun.1 (subst (λ (xs : List Entry). AreTaken xs m new) all a) in
        record { legal = record { start = begun.0; entries = at.legal }; working = at.working; look = at.look; config = at.config }

    -- a rule is broken
    pub run_refused : (new : Standing) (fault : RunFault) → EntriesAnswer es m new (Err fault) → RunAnswer p w (Err fault)
    unfolding schedule_fault
    run_refused new (Broken place code earlier) a =
        let found : Option PlacedFault = Some (record { line = place; fault = fault_of code earlier }) in
        let there : entries_fault m.look m.config 3 w.entries ≡ found = subst (λ (xs : List Entry). entries_fault m.look m.config 3 xs ≡ found) all a in
        ap (λ (o : Option Fault). at_line 2 o (entries_fault (look_of p w.start) (start_config p w.start) 3 w.entries)) begun.0
        ∙ subst (λ (s : Standing). entries_fault s.look s.config 3 w.entries ≡ found) begun.1 there
    run_refused new Memory a = tt

    -- the footprints of all entries are those of the run
    pub steps_are : feet (thread_step m.look) m.config es ≡ steps_of p w
    unfolding steps_of
    steps_are =
        ap (λ (xs : List Entry). feet (thread_step m.look) m.config xs) all
        ∙ ap (λ (s : Standing). feet (thread_step s.look) s.config w.entries) begun.1
