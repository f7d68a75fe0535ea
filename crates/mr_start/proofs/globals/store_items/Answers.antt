use Rattle.mr_start.proofs.Common.{◌∙◌, ap, behind}
use Rattle.mr_start.proofs.PieceStores.{next_stored}
use Rattle.mr_start.proofs.globals.store_items.Goals as goal

pub loop-item-preserved : goal.loop-item-preserved
loop-item-preserved c =
    let before = c.loop-item.invariant in
    let step = next_stored c.args.functions.now c.args.globals.now c.loop-item.memory c.store_item.new.memory c.loop-item.at c.behind-at.result c.args.items.now c.loop-item.item-index _
    c.loop-item-test.true before.0 c.in_ok-store_item.ensures (c.behind-at.ensures ∙ ap (behind c.loop-item.at) c.item_len.ensures) in
    (step.0, before.1 ∙ step.1)
