-- Entries that are taken up to the first that breaks a rule.
use Rattle.mr_next.proofs.Common.{◌≡◌, ℕ, zero, suc, ◌+◌, ◌-◌, ◌<◌, refl, sym, ap, ◌∙◌, subst, arith, List, [], ◌∷◌, ◌++◌, false, get_or, length, take, Option, Some, None, Ok, slice_get, take_more, Entry, Fault, Look, Own, thread_step, program_fault, fault_of, Standing, culprit_of}
use Rattle.std.proofs.Common.{drop}
use Rattle.std.proofs.lemmas.Option.{same_Some}
use Rattle.mr_ast.specs.declared.program.Program.{Program}
use Rattle.mr_run.specs.EventFootprint.{Footprint}
use Rattle.mr_sched.specs.declared.schedule.Schedule.{Schedule}
use Rattle.mr_step.specs.PlanRuns.{AreLegal, Config, after}
use Rattle.mr_step.specs.StartRuns.{PlacedFault, at_line, entries_fault, program_step, run_of, schedule_fault}
use Rattle.mr_step.specs.StartStart.{look_of, start_config}
use Rattle.mr_step.specs.Answers.{StartAnswer}
use Rattle.mr_run.specs.Runs.{AreTaken, IsMade, foot_by}
use Rattle.mr_run.proofs.RunLaws.{IsUnderWay, all_taken, breaks_here, goes_on, sets_out}
use Rattle.mr_auto.proofs.DrawnSoFar.{after_more}
use Rattle.mr_run.proofs.WitnessLists.{legal_append}
use Rattle.mr_next.specs.Reached.{GoesTo, IsReached, in_front, placed_of}
use Rattle.mr_next.specs.declared.broken.Broken.{Broken}
use Rattle.mr_next.specs.declared.reaching.Reached.{Reached}

-- an element at a position within the list
element_at : (es : List Entry) (i : ℕ) (d : Entry) → i < length es → slice_get es i ≡ Some (get_or es i d)
element_at [] i d lt = absurd (omega arith)
element_at (e ∷ es) zero d lt = refl
element_at (e ∷ es) (suc i) d lt = element_at es i d (omega arith)

element_there : (es : List Entry) (i : ℕ) (e : Entry) → i < length es → e ≡ get_or es i e → slice_get es i ≡ Some e
element_there es i e lt is = element_at es i e lt ∙ ap (λ (x : Entry). Some x) (sym is)

-- What stays true: some entries are taken, and the machine is under way.
pub record IsOnItsWay (first m : Standing) (place index : ℕ) (es : List Entry) : Type 0 where
  pub steps : List Footprint
  pub way : IsUnderWay first m steps place index es
  pub config : m.config ≡ after (thread_step first.look) first.config (take index es)
  pub legal : AreLegal (thread_step first.look) first.config (take index es)

pub begins_way : (first : Standing) (es : List Entry) → first.failed ≡ false → IsOnItsWay first first 3 0 es
begins_way first es working = record { steps = []; way = sets_out first es working; config = refl; legal = tt }

module _ (first m : Standing) (place index : ℕ) (es : List Entry) (h : IsOnItsWay first m place index es) where
  -- those in front are taken
  front_taken : AreTaken (take index es) first m
  front_taken = record { legal = h.legal; working = h.way.working; look = h.way.look; config = h.config }

  -- nothing is left
  pub reached_all : drop index es ≡ [] → IsReached es first m None
  reached_all d =
      let none : None ≡ entries_fault first.look first.config 3 es = sym (ap (λ (xs : List Entry). entries_fault first.look m.config place xs) d) ∙ h.way.fault in
      record {
        fault = none;
        taken = subst (λ (o : Option PlacedFault). AreTaken (in_front o es) first m) none (all_taken first m h.steps place index es h.way d);
        culprit = tt;
      }

  module _ (e : Entry) (lt : index < length es) (is : e ≡ get_or es index e) (d : drop index es ≡ e ∷ drop (index + 1) es) where
    more_is : take (index + 1) es ≡ take index es ++ e ∷ []
    more_is = take_more es index e lt ∙ ap (λ (x : Entry). take index es ++ x ∷ []) (sym is)

    -- the step of an entry is made
    pub way_goes_on : (new : Standing) → IsMade e m new → IsOnItsWay first new (place + 1) (index + 1) es
    way_goes_on new k =
        let config : new.config ≡ program_step first.look m.config e = ap (λ (s : Standing). s.config) k.after ∙ ap (λ (l : Look). program_step l m.config e) h.way.look in
        let unbroken : program_fault first.look m.config e ≡ None = subst (λ (l : Look). program_fault l m.config e ≡ None) h.way.look k.legal in
        record {
          steps = h.steps ++ foot_by e m;
          way = goes_on first m h.steps place index es h.way e d new k;
          config =
              config ∙ ap (λ (c : Config Own). program_step first.look c e) h.config
              ∙ sym (after_more (thread_step first.look) first.config (take index es) e)
              ∙ ap (after (thread_step first.look) first.config) (sym more_is);
          legal =
              subst (AreLegal (thread_step first.look) first.config) (sym more_is)
              (legal_append (thread_step first.look) first.config (take index es) (e ∷ []) h.legal
              (subst (λ (c : Config Own). AreLegal (thread_step first.look) c (e ∷ [])) h.config (unbroken, tt)));
        }

    -- the entry breaks a rule
    pub reached_broken : (b : Broken) → b.place ≡ place → program_fault m.look m.config e ≡ Some (fault_of b.code b.earlier) → b.culprit ≡ culprit_of m.look m.config e b.code → IsReached es first m (Some b)
    reached_broken b at k culprit =
        let found : Some (placed_of b) ≡ entries_fault first.look first.config 3 es =
        ap (λ n. Some (record { line = n; fault = fault_of b.code b.earlier })) at ∙ sym (breaks_here first m h.steps place index es h.way e d (fault_of b.code b.earlier) k) in
        let here : b.place - 3 ≡ index = omega (arith, h.way.place, at) in
        record {
          fault = found;
          taken = subst (λ (o : Option PlacedFault). AreTaken (in_front o es) first m) found (subst (λ n. AreTaken (take n es) first m) (sym here) front_taken);
          culprit = λ x there.
              let same : e ≡ x = same_Some e x (sym (element_there es index e lt is) ∙ ap (slice_get es) (sym here) ∙ there) in
              subst (λ (y : Entry). b.culprit ≡ culprit_of m.look m.config y b.code) same culprit;
        }

-- ---- the whole schedule

module _ (p : Program) (w : Schedule) (picks : List ℕ) (es : List Entry) (first : picks ≡ w.start) (all : es ≡ w.entries) (m : Standing) (h : StartAnswer p picks (Ok m)) where
  begun : StartAnswer p w.start (Ok m)
  begun = subst (λ (xs : List ℕ). StartAnswer p xs (Ok m)) first h

  -- behind a legal start line the first broken rule is that of an entry
  whole_fault : schedule_fault p w ≡ entries_fault m.look m.config 3 w.entries
  unfolding schedule_fault
  whole_fault =
      ap (λ (o : Option Fault). at_line 2 o (entries_fault (look_of p w.start) (start_config p w.start) 3 w.entries)) begun.0
      ∙ ap (λ (s : Standing). entries_fault s.look s.config 3 w.entries) (sym begun.1)

  -- the entries lead where the schedule does
  pub goes_to : (r : Reached) → IsReached es m r.machine r.broken → GoesTo p w r
  unfolding run_of
  goes_to r a =
      let at = subst (λ (xs : List Entry). IsReached xs m r.machine r.broken) all a in
      let taken : AreTaken (in_front (schedule_fault p w) w.entries) m r.machine = subst (λ (o : Option PlacedFault). AreTaken (in_front o w.entries) m r.machine) (sym whole_fault) at.taken in
      let there = subst (λ (s : Standing). AreTaken (in_front (schedule_fault p w) w.entries) s r.machine) begun.1 taken in
      record {
        fault = at.fault ∙ sym whole_fault;
        front = record { legal = record { start = begun.0; entries = there.legal }; working = there.working; look = there.look; config = there.config };
        culprit = at.culprit;
      }
