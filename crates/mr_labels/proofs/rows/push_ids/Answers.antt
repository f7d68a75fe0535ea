use Rattle.mr_labels.proofs.Common.{◌∙◌, start_id}
use Rattle.mr_labels.proofs.Growing.{pushed_next}
use Rattle.mr_labels.proofs.rows.push_ids.Goals as goal

pub loop-i-preserved : goal.loop-i-preserved
loop-i-preserved c =
    c.in_ok-push.ensures.items ∙ pushed_next start_id c.args.ids.now.items c.loop-i.ids.items c.loop-i.i c.loop-i.invariant
