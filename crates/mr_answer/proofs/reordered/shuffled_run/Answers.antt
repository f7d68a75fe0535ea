use Rattle.mr_answer.proofs.Common.{◌≤◌, ◌∙◌, List, ap, arith, length, subst, sym, Footprint, predicted, shuffled, steps_within, Text, Answer, Tells, Ran, told_in}
use Rattle.std.proofs.Common.{◌+◌}
use Rattle.mr_run.proofs.StepCount.{steps_without_last}
use Rattle.mr_answer.proofs.PrintedLaws.{printed_by_run}
use Rattle.mr_answer.proofs.ReorderedLaws.{as_it_ran, in_order, no_races, order_same, shuffled_many, some_races}
use Rattle.mr_answer.proofs.reordered.shuffled_run.Goals as goal

pub report_kept-requires-clause-steps : goal.report_kept-requires-clause-steps
report_kept-requires-clause-steps c = subst (λ (l : List Footprint). length l ≤ length c.args.w.now.entries) (sym c.requires.kept) (steps_within c.args.p.now c.args.w.now)

pub report_kept-requires-clause-texts : goal.report_kept-requires-clause-texts
report_kept-requires-clause-texts c = printed_by_run c.args.p.now c.args.w.now c.args.machine.now.config c.requires.run.config

pub returns-then-not-is_empty-clause-answer : goal.returns-then-not-is_empty-clause-answer
returns-then-not-is_empty-clause-answer c =
    let r : Ran = record { config = c.args.machine.now.config; steps = c.args.kept.now } in
    let some = some_races c.races-races.result.now c.is_empty.result c.is_empty.ensures c.if-not-is_empty.true in
    subst (λ (a : Answer). Tells a c.answered.result)
    (sym (as_it_ran c.args.number c.args.p.now c.args.v c.args.w.now r (predicted c.args.kept.now) (λ none. some (c.races-races.ensures ∙ none))))
    (c.answered.ensures.answer (told_in Text c.args.v c.args.w.now r) c.report_kept.ensures.answer)

pub shuffle-requires-clause-few : goal.shuffle-requires-clause-few
shuffle-requires-clause-few c =
    subst (λ (l : List Footprint). length l ≤ length c.args.w.now.entries) (sym (c.steps.ensures ∙ c.requires.kept)) (steps_within c.args.p.now c.args.w.now)

pub shuffle-requires-clause-many : goal.shuffle-requires-clause-many
shuffle-requires-clause-many c =
    subst (λ (l : List Footprint). length c.args.w.now.entries ≤ length l + 1) (sym (c.steps.ensures ∙ c.requires.kept)) (steps_without_last c.args.p.now c.args.w.now c.requires.run.legal)

pub run_again-requires-clause-few : goal.run_again-requires-clause-few
run_again-requires-clause-few c =
    let le = subst (λ (l : List Footprint). length l ≤ length c.args.w.now.entries) (sym (c.steps.ensures ∙ c.requires.kept)) (steps_within c.args.p.now c.args.w.now) in
    let same = shuffled_many c.steps.result.now c.args.w.now c.in_ok-order.order c.args.number c.in_ok-order.ensures.shuffled le in
    let few = c.requires.few in
    omega (arith, same, few)

pub run_again-requires-clause-legal : goal.run_again-requires-clause-legal
run_again-requires-clause-legal c =
    let none = no_races c.races-races.result.now c.is_empty.result c.is_empty.ensures c.if-not-is_empty.false in
    (order_same c.args.p.now c.program-program.result.now c.args.w.now c.in_ok-order.order c.steps.result.now c.args.number c.program-program.ensures.same c.program-program.ensures.well_formed
    c.requires.run.legal (c.steps.ensures ∙ c.requires.kept) (ap predicted c.steps.ensures ∙ sym c.races-races.ensures ∙ none) c.in_ok-order.ensures.same).legal

pub run_again-requires-clause-silent : goal.run_again-requires-clause-silent
run_again-requires-clause-silent c =
    let none = no_races c.races-races.result.now c.is_empty.result c.is_empty.ensures c.if-not-is_empty.false in
    (order_same c.args.p.now c.program-program.result.now c.args.w.now c.in_ok-order.order c.steps.result.now c.args.number c.program-program.ensures.same c.program-program.ensures.well_formed
    c.requires.run.legal (c.steps.ensures ∙ c.requires.kept) (ap predicted c.steps.ensures ∙ sym c.races-races.ensures ∙ none) c.in_ok-order.ensures.same).no_race

pub returns-clause-answer : goal.returns-clause-answer
returns-clause-answer c =
    let r : Ran = record { config = c.args.machine.now.config; steps = c.args.kept.now } in
    let none = no_races c.races-races.result.now c.is_empty.result c.is_empty.ensures c.if-not-is_empty.false in
    subst (λ (a : Answer). Tells a c.run_again.result)
    (sym (in_order c.args.number c.args.p.now c.args.v c.args.w.now c.in_ok-order.order r (predicted c.args.kept.now) (sym c.races-races.ensures ∙ none)
    (c.in_ok-order.ensures.shuffled ∙ ap (λ (l : List Footprint). shuffled l c.args.w.now c.args.number) c.steps.ensures)))
    c.run_again.ensures.answer
