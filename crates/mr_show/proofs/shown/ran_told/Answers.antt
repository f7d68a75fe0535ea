use Rattle.mr_show.proofs.Common.{ap, sym, ◌∙◌, ◌++◌, List, [], Option, flat_map, Allocation, rows_in, stands_in, steps_in}
use Rattle.mr_labels.specs.declared.step.ToldStep.{ToldStep}
use Rattle.mr_labels.specs.Table.{step_rows}
use Rattle.mr_replay.specs.declared.telling.Between.{Between}
use Rattle.mr_replay.specs.Told.{if_between, told_steps}
use Rattle.mr_show.specs.Answer.{first_rows}
use Rattle.mr_show.proofs.ShownLaws.{few_feet, on_ok, told_whole}
use Rattle.mr_show.proofs.shown.ran_told.Goals as goal

pub ended-requires-clause-feet : goal.ended-requires-clause-feet
ended-requires-clause-feet c =
    few_feet c.args.p.now c.args.w.now c.tell-outcome.result c.tell-outcome.new.kept c.requires.few c.tell-outcome.ensures.kept

pub ended-requires-clause-told : goal.ended-requires-clause-told
ended-requires-clause-told c =
    let p = c.args.p.now in
    let w = c.args.w.now in
    let outcome = c.tell-outcome.result in
    let asked = sym c.requires.asked in
    told_whole c.args.part c.args.text.now p c.args.v w outcome c.tell-outcome.new.rows.items c.as_slice-told.result.now []
    c.tell-outcome.new.kept c.tell-outcome.ensures.answer
    (on_ok outcome
    (λ made. made
    ∙ ap (λ (xs : List Allocation). xs ++ flat_map (step_rows p) (told_steps p w))
    (c.in_ok-rows.ensures ∙ ap (first_rows p) c.as_slice.ensures)
    ∙ ap (λ (o : Option Between). rows_in o p w) asked) c.tell-outcome.ensures.rows)
    (on_ok outcome
    (λ told. c.as_slice-told.ensures.value ∙ told
    ∙ ap (λ (xs : List ToldStep). xs ++ flat_map (if_between c.args.asked) (told_steps p w)) c.new-steps.ensures.items
    ∙ ap (λ (o : Option Between). steps_in o p w) asked) c.tell-outcome.ensures.told)
    (on_ok outcome (λ _. ap (λ (o : Option Between). stands_in o p w) asked) c.tell-outcome.ensures.kept)
    c.tell-outcome.ensures.kept
