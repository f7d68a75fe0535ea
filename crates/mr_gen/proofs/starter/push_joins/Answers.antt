use Rattle.mr_gen.proofs.Common.{◌∙◌, join_block}
use Rattle.mr_gen.proofs.Growing.{pushed_next}
use Rattle.mr_gen.proofs.starter.push_joins.Goals as goal

pub loop-k-preserved : goal.loop-k-preserved
loop-k-preserved c =
    c.in_ok-push.ensures.ok
    ∙ pushed_next (join_block c.args.workers) c.args.blocks.now c.loop-k.blocks c.loop-k.k c.in_ok-join_block.field-0 c.loop-k.auto.k c.loop-k.invariant c.in_ok-join_block.ensures
