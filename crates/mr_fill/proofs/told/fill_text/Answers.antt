use Rattle.mr_fill.proofs.ToldLaws.{fault_told, text_told}
use Rattle.mr_fill.proofs.told.fill_text.Goals as goal

pub returns-in-Ok-order_text : goal.returns-in-Ok-order_text
returns-in-Ok-order_text c =
    text_told c.args.p.now c.args.text.now c.in-Ok.order c.in-Ok-order_text.text c.in-Ok.ensures.order
    (rw c.as_slice.ensures at c.in-Ok-order_text.ensures)

pub returns : goal.returns
returns c = fault_told c.args.p.now c.args.text.now c.in-Err.fault c.in-Err.ensures.order
