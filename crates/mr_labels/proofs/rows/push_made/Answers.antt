use Rattle.mr_labels.proofs.Common.{◌∙◌, arith, row_at}
use Rattle.mr_labels.proofs.Growing.{appended_next}
use Rattle.mr_labels.proofs.rows.push_made.Goals as goal

pub loop-at-preserved : goal.loop-at-preserved
loop-at-preserved c =
    c.in_ok-push_row.ensures
    ∙ appended_next
    (row_at c.args.made.now.names.now c.args.made.now.ids.now c.args.made.now.asks.now c.args.made.now.picks.now)
    c.args.out.now.items c.loop-at.out.items 0 c.loop-at.at c.loop-at.at (omega arith) c.loop-at.invariant
