use Rattle.mr_labels.proofs.Common.{◌∙◌, function_name}
use Rattle.mr_labels.proofs.Growing.{pushed_next}
use Rattle.mr_labels.proofs.rows.push_functions.Goals as goal

pub loop-i-preserved : goal.loop-i-preserved
loop-i-preserved c =
    c.in_ok-push.ensures.items ∙ pushed_next function_name c.args.names.now.items c.loop-i.names.items c.loop-i.i c.loop-i.invariant
