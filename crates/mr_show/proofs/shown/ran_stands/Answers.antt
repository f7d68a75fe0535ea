use Rattle.mr_show.proofs.Common.{ap, sym, ◌∙◌, ◌++◌, List, [], Option, Stand, rows_in, stands_in, steps_in}
use Rattle.mr_replay.specs.declared.telling.Between.{Between}
use Rattle.mr_replay.specs.Stands.{stands_of}
use Rattle.mr_show.proofs.ShownLaws.{few_feet, on_ok, told_whole}
use Rattle.mr_show.proofs.shown.ran_stands.Goals as goal

pub ended-requires-clause-feet : goal.ended-requires-clause-feet
ended-requires-clause-feet c =
    few_feet c.args.p.now c.args.w.now c.stands-outcome.result c.stands-outcome.new.kept c.requires.few
    c.stands-outcome.ensures.kept

pub ended-requires-clause-told : goal.ended-requires-clause-told
ended-requires-clause-told c =
    let p = c.args.p.now in
    let w = c.args.w.now in
    let outcome = c.stands-outcome.result in
    let asked = sym c.requires.asked in
    let kept = c.stands-outcome.ensures.kept in
    told_whole c.args.part c.args.text.now p c.args.v w outcome c.new-rows.result.items [] c.as_slice-2.result.now
    c.stands-outcome.new.kept c.stands-outcome.ensures.answer
    (on_ok outcome (λ _. c.new-rows.ensures.items ∙ ap (λ (o : Option Between). rows_in o p w) asked) kept)
    (on_ok outcome (λ _. ap (λ (o : Option Between). steps_in o p w) asked) kept)
    (on_ok outcome
    (λ stood. c.as_slice-2.ensures.value ∙ stood
    ∙ ap (λ (xs : List (Option Stand)). xs ++ stands_of p w) c.new-stood.ensures.items
    ∙ ap (λ (o : Option Between). stands_in o p w) asked) c.stands-outcome.ensures.stood)
    kept
