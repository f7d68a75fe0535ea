-- The run of a number, which its schedule was drawn in.
use Rattle.mr_hunt.proofs.Common.{◌≡◌, ℕ, ◌∙◌, List, ◌∷◌, ap, map, sym, Pair, Schedule, Config, Printed, steps_of, drawn_schedule, End, stands_of, ends_of, race_at}
use Rattle.mr_ast.specs.declared.program.Program.{Program}
use Rattle.mr_base.specs.declared.reason.Verdict.{Verdict}
use Rattle.mr_event.specs.Footprint.{Footprint}
use Rattle.mr_event.specs.Predicted.{predicted}
use Rattle.mr_step.specs.Standing.{Standing}
use Rattle.mr_auto.specs.StartRuns.{run_of}
use Rattle.mr_auto.specs.StartSteps.{Own}
use Rattle.mr_run.specs.Runs.{IsRun}
use Rattle.mr_hunt.specs.declared.ends.End.TheVariants as shown

module _ (p : Program) (number most : ℕ) (w : Schedule) (m : Standing) (same : w ≡ drawn_schedule p number most)
    (run : IsRun p w m) where
  pub verdict_is : (v : Verdict) → v ≡ m.config.verdict → v ≡ (run_of p (drawn_schedule p number most)).verdict
  verdict_is v e =
      e ∙ ap (λ (c : Config Own). c.verdict) run.config ∙ ap (λ (u : Schedule). (run_of p u).verdict) same

  pub output_is : m.config.output ≡ (run_of p (drawn_schedule p number most)).output
  output_is = ap (λ (c : Config Own). c.output) run.config ∙ ap (λ (u : Schedule). (run_of p u).output) same

  pub races_are : (steps : List Footprint) (races : List Pair) → steps ≡ steps_of p w → races ≡ predicted steps
      → races ≡ predicted (steps_of p (drawn_schedule p number most))
  races_are steps races kept are =
      are ∙ ap predicted kept ∙ ap (λ (u : Schedule). predicted (steps_of p u)) same

  pub ends_are : (v : Verdict) (steps : List Footprint) (races : List Pair) → v ≡ m.config.verdict
      → steps ≡ steps_of p w → races ≡ predicted steps
      → shown.Verdict v ∷ map (race_at (stands_of p w)) races ≡ ends_of p most number
  ends_are v steps races e kept are =
      (λ i. shown.Verdict (verdict_is v e i) ∷ map (race_at (stands_of p (same i))) (races_are steps races kept are i))
