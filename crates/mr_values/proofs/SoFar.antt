-- Entries that are taken one after another, and the values of their steps.
use Rattle.std.proofs.Common.{◌≡◌, ℕ, zero, suc, ◌+◌, ◌<◌, ◌≤◌, ◌∙◌, ap, ap₂, sym, subst, refl, arith, false, List, []}
use Rattle.std.proofs.Common.{◌∷◌, ◌++◌, get_or, length, map, take}
use Rattle.std.proofs.lemmas.List.{take_more}
use Rattle.std.proofs.lemmas.Option.{slice_get_read}
use Rattle.std.specs.Prelude.{None, Some, slice_get}
use Rattle.std.specs.List.{range_with_len}
use Rattle.mr_ast.specs.declared.program.Program.{Program}
use Rattle.mr_event.specs.Footprint.{Footprint}
use Rattle.mr_step.specs.FrameFrames.{Look}
use Rattle.mr_labels.specs.declared.rows.Allocation.{Allocation}
use Rattle.mr_labels.proofs.Growing.{pushed_next}
use Rattle.mr_listing.specs.declared.held.StepValues.{StepValues}
use Rattle.mr_step.specs.PlanMachine.{Language}
use Rattle.mr_step.specs.PlanRuns.{AreLegal, Config, after, entry_fault, machine_step}
use Rattle.mr_replay.specs.declared.telling.Between.{Between}
use Rattle.mr_sched.specs.declared.schedule.Entry.{Entry}
use Rattle.mr_sched.specs.declared.schedule.Schedule.{Schedule}
use Rattle.mr_step.specs.Answers.{standing}
use Rattle.mr_step.specs.StartRuns.{Legal, program_fault, program_step}
use Rattle.mr_step.specs.Standing.{Standing}
use Rattle.mr_step.specs.ThreadSteps.{Own, thread_step}
use Rattle.mr_step.proofs.PlanRunLaws.{completed_by_step}
use Rattle.mr_run.specs.Runs.{IsMade}
use Rattle.mr_auto.proofs.DrawnSoFar.{after_more}
use Rattle.mr_values.specs.Values.{accesses_at, run_values, values_at, values_between}

-- an entry of legal ones breaks no rule where those in front of it lead
legal_at : {L : Type 0} (step : Language L) (c : Config L) (es : List Entry) (i : ℕ) (e : Entry) → AreLegal step c es
    → slice_get es i ≡ Some e → entry_fault step (after step c (take i es)) e ≡ None
legal_at step c [] zero e legal there = absurd (cc)
legal_at step c [] (suc i) e legal there = absurd (cc)
legal_at step c (x ∷ es) zero e legal there =
    let same : x ≡ e = cc in subst (λ (y : Entry). entry_fault step c y ≡ None) same legal.0
legal_at step c (x ∷ es) (suc i) e legal there = legal_at step (machine_step step c x) es i e legal.1 there

-- What stays true: the machine stands where the entries so far lead, and their values are told.
pub record IsSoFar (rows : List Allocation) (feet : List Footprint) (part : Between) (first m : Standing)
    (values : List StepValues) (number index : ℕ) (es : List Entry) : Type 0 where
  pub counted : number ≡ index
  pub within : index ≤ length es
  pub working : m.failed ≡ false
  pub look : m.look ≡ first.look
  pub here : m.config ≡ after (thread_step first.look) first.config (take index es)
  pub completed : m.config.completed ≤ first.config.completed + index
  pub told : values ≡ map (values_at first.look first.config es rows feet part) (range_with_len 0 index)

module _ (rows : List Allocation) (feet : List Footprint) (part : Between) where
  pub sets_out : (first : Standing) (es : List Entry) (values : List StepValues) → values ≡ [] → first.failed ≡ false
      → IsSoFar rows feet part first first values 0 0 es
  sets_out first es values none working = record {
    counted = refl;
    within = omega arith;
    working = working;
    look = refl;
    here = refl;
    completed = omega arith;
    told = none;
  }

  module _ (first m : Standing) (values : List StepValues) (number index : ℕ) (es : List Entry)
      (h : IsSoFar rows feet part first m values number index es) where
    -- nothing is left
    pub all_told : length es ≤ index
        → values ≡ map (values_at first.look first.config es rows feet part) (range_with_len 0 (length es))
    all_told none =
        let in_all = h.within in
        let all : index ≡ length es = omega arith in
        h.told ∙ ap (λ n. map (values_at first.look first.config es rows feet part) (range_with_len 0 n)) all

    module _ (e : Entry) (more : index < length es) (is : e ≡ get_or es index e) where
      there : slice_get es index ≡ Some e
      there = slice_get_read es (length es) index e refl more is

      -- the next entry breaks no rule
      pub legal_here : AreLegal (thread_step first.look) first.config es → program_fault m.look m.config e ≡ None
      legal_here legal =
          ap₂ (λ (l : Look) (c : Config Own). program_fault l c e) h.look h.here
          ∙ legal_at (thread_step first.look) first.config es index e legal there

      more_is : take (index + 1) es ≡ take index es ++ e ∷ []
      more_is = take_more es index e more ∙ ap (λ (x : Entry). take index es ++ x ∷ []) (sym is)

      -- where its step leads
      stepped : program_step m.look m.config e ≡ after (thread_step first.look) first.config (take (index + 1) es)
      stepped =
          ap₂ (λ (l : Look) (c : Config Own). program_step l c e) h.look h.here
          ∙ sym (after_more (thread_step first.look) first.config (take index es) e)
          ∙ ap (after (thread_step first.look) first.config) (sym more_is)

      -- its step is made, and has these values
      pub one_more : (new : Standing) (held : StepValues) (next : List StepValues) → IsMade e m new
          → held ≡ values_between rows (accesses_at part feet number) m.config (program_step m.look m.config e)
          → next ≡ values ++ held ∷ [] → IsSoFar rows feet part first new next (number + 1) (index + 1) es
      one_more new held next k found pushed =
          let at : new.config ≡ program_step m.look m.config e = ap (λ (s : Standing). s.config) k.after in
          let same : values_between rows (accesses_at part feet number) m.config (program_step m.look m.config e)
          ≡ values_at first.look first.config es rows feet part index =
          (λ i. values_between rows (accesses_at part feet (h.counted i)) (h.here i) (stepped i)) in
          record {
            counted = (let so_far = h.counted in omega arith);
            within = omega arith;
            working = ap (λ (s : Standing). s.failed) k.after;
            look = ap (λ (s : Standing). s.look) k.after ∙ h.look;
            here = at ∙ stepped;
            completed =
                (let so_far = h.completed in
                let one = completed_by_step (thread_step m.look) m.config e in
                let led = ap (λ (c : Config Own). c.completed) at in
                omega (arith, so_far, one, led));
            told =
                pushed ∙ ap (λ (v : StepValues). values ++ v ∷ []) (found ∙ same)
                ∙ pushed_next (values_at first.look first.config es rows feet part) [] values index h.told;
          }

  -- ---- the whole run

  module _ (p : Program) (w : Schedule) (picks : List ℕ) (es : List Entry) (m : Standing) (first : picks ≡ w.start)
      (all : es ≡ w.entries) (is : m ≡ standing p picks) where
    begun : m ≡ standing p w.start
    begun = is ∙ ap (standing p) first

    pub legal_from : Legal p w → AreLegal (thread_step m.look) m.config es
    legal_from legal =
        subst (λ (s : Standing). AreLegal (thread_step s.look) s.config es) (sym begun)
        (subst (λ (xs : List Entry). AreLegal (thread_step (standing p w.start).look) (standing p w.start).config xs)
        (sym all) legal.entries)

    -- the values of all entries are those of the run
    pub values_are : map (values_at m.look m.config es rows feet part) (range_with_len 0 (length es))
        ≡ run_values p w rows feet part
    unfolding run_values
    values_are =
        ap₂ (λ (s : Standing) (xs : List Entry).
        map (values_at s.look s.config xs rows feet part) (range_with_len 0 (length xs))) begun all
