use Rattle.mr_labels.proofs.Common.{◌∙◌, ap, sym, ◌++◌, append-nil, Option, Allocation}
use Rattle.std.specs.Prelude.{option_to_list}
use Rattle.mr_labels.specs.Table.{row_of}
use Rattle.mr_labels.proofs.rows.push_row.Goals as goal

pub returns-in_ok-push-in-Some : goal.returns-in_ok-push-in-Some
returns-in_ok-push-in-Some c =
    c.in_ok-push-in-Some.ensures.items
    ∙ ap (λ (o : Option Allocation). c.args.out.now.items ++ option_to_list o)
    (c.in-Some.ensures
    ∙ (λ i. row_of (c.name_at-name.ensures i) (c.id_at-id.ensures i) (c.ask_at-ask.ensures i) (c.pick_at-pick.ensures i)))

pub returns-in-None : goal.returns-in-None
returns-in-None c =
    sym (append-nil c.args.out.now.items)
    ∙ ap (λ (o : Option Allocation). c.args.out.now.items ++ option_to_list o)
    (c.in-None.ensures
    ∙ (λ i. row_of (c.name_at-name.ensures i) (c.id_at-id.ensures i) (c.ask_at-ask.ensures i) (c.pick_at-pick.ensures i)))
