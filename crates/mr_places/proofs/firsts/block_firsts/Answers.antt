use Rattle.mr_places.proofs.Common.{ap, ◌∙◌, ◌+◌, length}
use Rattle.mr_places.proofs.LaidLaws.{block_step, item_at}
use Rattle.mr_places.proofs.firsts.block_firsts.Goals as goal

pub loop-block-preserved : goal.loop-block-preserved
loop-block-preserved c =
    block_step _ _ _ _ _ c.args.blocks.now c.loop-block.block-index c.block-item.result
    (item_at c.args.blocks.now c.loop-block.block-index c.block-item.result c.loop-block-test.true c.block-item.is) c.loop-block.invariant c.in_ok-push.ensures.items
    (c.in_ok-next.ensures ∙ ap (λ l. c.loop-block.next + (length l + 1)) c.as_slice.ensures)
