use Rattle.mr_gen.proofs.Common.{◌∙◌, spawn_block}
use Rattle.mr_gen.proofs.Growing.{pushed_next}
use Rattle.mr_gen.proofs.starter.push_spawns.Goals as goal

pub loop-k-preserved : goal.loop-k-preserved
loop-k-preserved c =
    c.in_ok-push.ensures.ok
    ∙ pushed_next spawn_block c.args.blocks.now c.loop-k.blocks c.loop-k.k c.in_ok-spawn_block.field-0 c.loop-k.auto.k c.loop-k.invariant c.in_ok-spawn_block.ensures
