use Rattle.mr_show.proofs.Common.{◌≡◌, ◌<◌, ◌^◌, ◌∙◌, List, ap, arith, length, subst, sym, IfOk, Option, Footprint, Written, Seen, part_answer, part_values, gathered}
use Rattle.mr_clocks.specs.Tracked.{Tracks}
use Rattle.mr_event.specs.Predicted.{predicted}
use Rattle.mr_step.specs.PlanRuns.{Config}
use Rattle.mr_start.specs.Steps.{Own}
use Rattle.mr_listing.specs.declared.held.StepValues.{StepValues}
use Rattle.mr_base.specs.declared.reached.Reached.{Reached}
use Rattle.mr_labels.specs.declared.rows.Allocation.{Allocation}
use Rattle.mr_input.specs.Answer.{Answer, seen as written_as}
use Rattle.mr_show.proofs.laid.laid.Goals as goal

pub values_of-requires-clause-legal : goal.values_of-requires-clause-legal
values_of-requires-clause-legal c = c.requires.run.legal

pub written-requires-clause-count : goal.written-requires-clause-count
written-requires-clause-count c = omega (arith, c.len.ensures, c.requires.few)

pub written-requires-clause-feet : goal.written-requires-clause-feet
written-requires-clause-feet c =
    subst (λ (feet : List Footprint). length feet < 2 ^ 32) (sym c.steps-feet.ensures) c.requires.feet

pub written-requires-clause-tracks : goal.written-requires-clause-tracks
written-requires-clause-tracks c =
    subst (λ (feet : List Footprint). Tracks c.order.result.now feet) (sym c.steps-feet.ensures) c.order.ensures

pub written-requires-clause-races : goal.written-requires-clause-races
written-requires-clause-races c = c.races.ensures ∙ ap predicted (sym c.steps-feet.ensures)

pub returns-clause-answer : goal.returns-clause-answer
returns-clause-answer c =
    let text = c.args.text.now in
    let told = c.args.told.now in
    let count = length c.args.w.now.entries in
    let lines = c.as_slice.ensures.value ∙ c.in_ok-lines.ensures in
    let rests = c.as_slice-2.ensures.value ∙ c.in_ok-rests.ensures in
    let here : Seen = record {
      text = text;
      program = c.program-program.result.now;
      laid = c.in_ok-places.places;
      rows = c.in_ok-rows.rows;
      steps = told;
      stands = c.args.stands.now;
      count = c.len.result;
      feet = c.steps-feet.result.now;
      lines = c.as_slice.result.now;
      races = c.races.result.now;
      verdict = c.verdict.result;
      rests = c.as_slice-2.result.now;
    } in
    let there : Seen =
    gathered text c.args.p.now c.args.machine.now.config count c.args.rows.items told c.args.stands.now c.args.kept.now in
    let same : here ≡ there = (λ i. record {
      text = text;
      program = c.program-program.ensures.same i;
      laid = c.in_ok-places.ensures i;
      rows = c.in_ok-rows.ensures i;
      steps = told;
      stands = c.args.stands.now;
      count = c.len.ensures i;
      feet = c.steps-feet.ensures i;
      lines = lines i;
      races = c.races.ensures i;
      verdict = c.verdict.ensures i;
      rests = rests i;
    }) in
    let part = c.args.part in
    let spoken : Option Reached = c.about.result in
    let values =
    c.as_slice-3.ensures.value ∙ c.in_ok-values.ensures
    ∙ ap (λ (rows : List Allocation). part_values part c.args.p.now c.args.w.now rows c.args.kept.now)
    c.in_ok-rows.ensures in
    let answer : Option Reached → List StepValues → Seen → Type 0 = λ x vs s.
    IfOk c.written.result (λ (a : Written). written_as a ≡ part_answer part x vs s) in
    let laid = subst (answer spoken c.as_slice-3.result.now) same c.written.ensures.answer in
    let valued = subst (λ (vs : List StepValues). answer spoken vs there) values laid in
    subst (λ (x : Option Reached).
    answer x (part_values part c.args.p.now c.args.w.now c.args.rows.items c.args.kept.now) there)
    (c.about.ensures ∙ ap (λ (x : Config Own). x.about) c.requires.run.config) valued
