use Rattle.mr_answer.proofs.Common.{◌≡◌, ◌≤◌, ◌∙◌, List, Option, ap, ap₂, length, subst, sym, IfOk, Footprint, Pair, predicted, Schedule, Written, Answer, seen, told_by}
use Rattle.mr_run.specs.Witnesses.{witness_for}
use Rattle.mr_answer.proofs.report.report_kept.Goals as goal

pub first_witness-requires-clause-many : goal.first_witness-requires-clause-many
first_witness-requires-clause-many c = subst (λ (l : List Footprint). length l ≤ length c.args.w.now.entries) (sym c.steps.ensures) c.requires.steps

pub first_witness-requires-clause-races : goal.first_witness-requires-clause-races
first_witness-requires-clause-races c = c.races-races.ensures ∙ ap predicted (sym c.steps.ensures)

pub returns-clause-answer : goal.returns-clause-answer
returns-clause-answer c =
    subst (λ (a : Answer). IfOk c.report.result (λ (x : Written). seen x ≡ a))
    (ap₂ (λ (races : List Pair) (witness : Option Schedule). told_by c.args.format c.args.v c.args.machine.now.config races witness) c.races-races.ensures
    (c.as_ref.ensures.value ∙ c.in_ok-witness.ensures
    ∙ (λ i. witness_for (c.selection_of-selection.ensures i) (c.steps.ensures i) c.args.w.now (c.races-races.ensures i))))
    c.report.ensures.answer
