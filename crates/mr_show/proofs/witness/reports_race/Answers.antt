use Rattle.mr_show.proofs.Common.{◌∙◌, ap, sym, Option, PlacedFault}
use Rattle.mr_step.specs.PlanRuns.{Config}
use Rattle.mr_run.specs.Runs.{IsFirstFault}
use Rattle.mr_run.specs.declared.fault.RunFault.TheVariants.{Broken}
use Rattle.mr_start.specs.Runs.{run_of}
use Rattle.mr_start.specs.Steps.{Own}
use Rattle.mr_start.proofs.RunLaws.{no_schedule_fault}
use Rattle.mr_show.specs.Witness.{ends_in_race, is_race}
use Rattle.mr_show.proofs.witness.reports_race.Goals as goal

pub returns-in-Ok : goal.returns-in-Ok
returns-in-Ok c =
    let p = c.args.p.now in
    let w = c.args.w.now in
    let run = c.in-Ok.ensures.answer in
    c.is_race.ensures
    ∙ ap is_race (c.verdict.ensures ∙ ap (λ (x : Config Own). x.verdict) run.config)
    ∙ sym (ap (λ (f : Option PlacedFault). ends_in_race f (run_of p w).verdict) (no_schedule_fault p w run.legal))

pub returns-in-Err-Broken : goal.returns-in-Err-Broken
returns-in-Err-Broken c =
    let p = c.args.p.now in
    let w = c.args.w.now in
    let bad : IsFirstFault p w (Broken c.in-Err-Broken.field-0-0 c.in-Err-Broken.field-0-1 c.in-Err-Broken.field-0-2) =
    rw c.in-Err-Broken.field-0-is at c.in-Err-Broken.ensures.answer in
    sym (ap (λ (o : Option PlacedFault). ends_in_race o (run_of p w).verdict) bad)
