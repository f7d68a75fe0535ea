use Rattle.mr_show.proofs.Common.{◌∙◌, IfOk-weaker}
use Rattle.mr_labels.specs.Table.{start_rows}
use Rattle.mr_show.proofs.shown.first_rows.Goals as goal

pub returns : goal.returns
returns c =
    let asks = c.as_slice.ensures.value ∙ c.in_ok-asks.ensures in
    IfOk-weaker c.start_rows.result _ _
    (λ rows h. h ∙ (λ i. start_rows (c.program.ensures.same i) (asks i) c.args.picks.now)) c.start_rows.ensures
