-- What is told of a run, from how it is answered.
use Rattle.mr_answer.proofs.Common.{◌≡◌, ℕ, sym, ap, ap₂, ◌∙◌, List, [], length, Option, Some, None, Err, subst, Result, Program, Footprint, Pair, predicted, Config, Schedule, Version, One, Legal, run_of, steps_of, Own, Written, Text, Answer, Tells, Ran, behind_schedule, told_by, told_in}
use Rattle.std.proofs.Common.{inl, inr}
use Rattle.mr_gen.specs.Generated.{generated}
use Rattle.mr_step.specs.StartRuns.{PlacedFault}
use Rattle.mr_step.proofs.StartRunLaws.{no_schedule_fault}
use Rattle.mr_step.specs.Standing.{Standing}
use Rattle.mr_auto.specs.Drawing.{drawn_schedule}
use Rattle.mr_run.specs.declared.fault.RunFault.{RunFault}
use Rattle.mr_run.specs.declared.fault.RunFault.TheVariants.{Broken, Memory}
use Rattle.mr_run.specs.Runs.{IsFirstFault, IsRun}
use Rattle.mr_run.specs.Witnesses.{witness_for}
use Rattle.mr_answer.specs.declared.formats.Format.{Format}
use Rattle.mr_input.specs.declared.refusal.Refusal.{Refusal}
use Rattle.mr_input.specs.Answer.{told}
use Rattle.mr_answer.specs.Answers.{big_answer, drawn_answer, legal_run, ran, selection_of, summary, unless_broken}
use Rattle.mr_input.specs.Inputs.{IsUnreadFault}
use Rattle.mr_answer.specs.Running.{refusal_by}

none_some : {A : Type 0} {x : A} → ◌≡◌ {A = Option A} None (Some x) → ⊥
none_some e = cc

module _ (p : Program) (v : Version) (w : Schedule) where
  -- a run that was taken to its end is told as what was kept of it
  pub told_ran : (m : Standing) (steps : List Footprint) (say : Ran → Answer) (result : Result Written Refusal) → IsRun p w m → steps ≡ steps_of p w
      → Tells (say (record { config = m.config; steps = steps })) result → Tells (told say (legal_run v p w)) result
  told_ran m steps say result run are tells = subst (λ (a : Answer). Tells a result) (sym (legal ∙ kept)) tells
    where
      legal : told say (legal_run v p w) ≡ say (ran p w)
      legal = ap (λ (f : Option PlacedFault). told say (unless_broken v w f (ran p w))) (no_schedule_fault p w run.legal)

      kept : say (ran p w) ≡ say (record { config = m.config; steps = steps })
      kept = ap₂ (λ (c : Config Own) (fs : List Footprint). say (record { config = c; steps = fs })) (sym run.config) (sym are)

  -- and the first rule that the schedule breaks, on its line
  pub told_refused : (say : Ran → Answer) (f : RunFault) → IsFirstFault p w f → Tells (told say (legal_run v p w)) (Err (refusal_by v w f))
  told_refused say (Broken place code earlier) h = ap (λ (o : Option PlacedFault). told say (unless_broken v w o (ran p w))) h
  told_refused say Memory h = tt

  -- a legal schedule breaks none
  pub refused_again : (f : RunFault) (a : Answer) → Legal p w → IsFirstFault p w f → Tells a (Err (refusal_by v w f))
  refused_again (Broken place code earlier) a legal h = absurd (none_some (sym (no_schedule_fault p w legal) ∙ h))
  refused_again Memory a legal h = tt

-- what refuses a run is no failed read
pub refused_read : (v : Version) (w : Schedule) (f : RunFault) → IsUnreadFault {A = Written} (Err (refusal_by v w f)) → ⊥
refused_read v w (Broken place code earlier) (inl e) = absurd (cc)
refused_read v w (Broken place code earlier) (inr (inl e)) = absurd (cc)
refused_read v w (Broken place code earlier) (inr (inr e)) = absurd (cc)
refused_read v w Memory (inl e) = absurd (cc)
refused_read v w Memory (inr (inl e)) = absurd (cc)
refused_read v w Memory (inr (inr e)) = absurd (cc)

-- A RUN THAT SHOWS NO RACE is told without its footprints
pub told_bare : (format : Format) (v : Version) (w : Schedule) (config : Config Own) (steps : List Footprint) → predicted steps ≡ []
    → told_in format v w (record { config = config; steps = steps }) ≡ told_by format v config [] None
told_bare format v w config steps none = ap (λ (races : List Pair). told_by format v config races (witness_for (selection_of format) steps w races)) none

-- ---- runs under a schedule that is drawn

-- its report
pub drawn_is : (p : Program) (w drawn : Schedule) (config : Config Own) (steps : List Footprint) → w ≡ drawn → config ≡ run_of p w → steps ≡ steps_of p w
    → behind_schedule One w (told_in Text One w (record { config = config; steps = steps })) ≡ drawn_answer p drawn
drawn_is p w drawn config steps same at are =
    ap₂ (λ (c : Config Own) (fs : List Footprint). behind_schedule One w (told_in Text One w (record { config = c; steps = fs }))) at are
    ∙ ap (drawn_answer p) same

-- its summary
pub summary_is : (p : Program) (number entries : ℕ) (w : Schedule) (config : Config Own) (steps : List Footprint) (races : List Pair) → p ≡ generated number
    → w ≡ drawn_schedule p number 65536 → entries ≡ length w.entries → config ≡ run_of p w → steps ≡ steps_of p w → races ≡ predicted steps
    → summary number entries config races ≡ big_answer number
summary_is p number entries w config steps races generates drawn count at are shown =
    (λ i. summary number (count i) (at i) ((shown ∙ ap predicted are) i))
    ∙ ap (say p) drawn
    ∙ ap (λ (q : Program). say q (drawn_schedule q number 65536)) generates
  where
    say : Program → Schedule → Answer
    say q x = summary number (length x.entries) (run_of q x) (predicted (steps_of q x))
