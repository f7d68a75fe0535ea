use Rattle.mr_show.proofs.Common.{◌≡◌, ◌≤◌, ◌∙◌, List, Option, Some, None, ap, length, subst, sym, IfOk-weaker, Footprint}
use Rattle.std.specs.Prelude.{Contains}
use Rattle.mr_event.specs.Predicted.{predicted}
use Rattle.mr_event.specs.declared.footprint.Pair.{Pair}
use Rattle.mr_run.specs.Witnesses.{race_of, witness_by}
use Rattle.mr_show.specs.Witness.{shown_text, witness_text}
use Rattle.mr_show.proofs.WitnessLaws.{found_listed}
use Rattle.mr_show.proofs.witness.text_of.Goals as goal

pub race_text-requires-clause-many : goal.race_text-requires-clause-many
race_text-requires-clause-many c =
    subst (λ (l : List Footprint). length l ≤ length c.args.read.now.schedule.entries) (sym c.steps.ensures)
    c.requires.many

pub race_text-requires-clause-listed : goal.race_text-requires-clause-listed
race_text-requires-clause-listed c =
    subst (λ (l : List Footprint). Contains (predicted l) c.in-Some.pair) (sym c.steps.ensures)
    (found_listed c.args.step (predicted c.args.kept.now) c.in-Some.pair
    (sym (c.race_of.ensures ∙ ap (race_of c.args.step) c.races.ensures) ∙ c.in-Some.is))

pub returns-in-Some : goal.returns-in-Some
returns-in-Some c =
    let p = c.args.p.now in
    let r = c.args.read.now in
    let feet = c.args.kept.now in
    let pair = c.in-Some.pair in
    let here : Some pair ≡ race_of c.args.step (predicted feet) =
    sym c.in-Some.is ∙ c.race_of.ensures ∙ ap (race_of c.args.step) c.races.ensures in
    IfOk-weaker c.race_text.result _ _
    (λ text h. h
    ∙ ap (λ (l : List Footprint).
    shown_text p r.version pair (witness_by c.args.selection l r.schedule pair.first pair.second)) c.steps.ensures
    ∙ ap (λ (o : Option Pair). witness_text c.args.step c.args.selection p r feet o) here)
    c.race_text.ensures

pub returns-in-None : goal.returns-in-None
returns-in-None c =
    let feet = c.args.kept.now in
    let here : None ≡ race_of c.args.step (predicted feet) =
    sym c.in-None.is ∙ c.race_of.ensures ∙ ap (race_of c.args.step) c.races.ensures in
    IfOk-weaker c.unlisted.result _ _
    (λ text h. h
    ∙ ap (λ (o : Option Pair). witness_text c.args.step c.args.selection c.args.p.now c.args.read.now feet o) here)
    c.unlisted.ensures
