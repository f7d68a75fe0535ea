use Rattle.mr_places.proofs.Common.{map, ap, ◌∙◌, map-append, firsts_of_blocks, ends_of_blocks}
use Rattle.mr_places.proofs.LaidLaws.{function_step, item_at}
use Rattle.mr_places.proofs.firsts.firsts.Goals as goal

pub loop-function-preserved : goal.loop-function-preserved
loop-function-preserved c =
    function_step _ _ c.in_ok-row.row.items _ _ c.in_ok-first.first c.in_ok-ends_of.field-0 c.args.functions.now c.loop-function.function-index c.function-item.result
    (item_at c.args.functions.now c.loop-function.function-index c.function-item.result c.loop-function-test.true c.function-item.is) c.loop-function.invariant
    c.in_ok-first.ensures (c.in_ok-row.ensures ∙ ap (firsts_of_blocks c.in_ok-first.first) c.as_slice-blocks.ensures)
    (ap (λ rows. map (λ row. row.items) rows) c.in_ok-push.ensures.items ∙ map-append (λ row. row.items) c.loop-function.rows.items _)
    (c.in_ok-ends_of.ensures ∙ ap ends_of_blocks c.as_slice-blocks.ensures) c.in_ok-next.ensures
