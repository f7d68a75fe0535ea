use Rattle.mr_fill.proofs.Common.{sym, subst, weaker}
use Rattle.mr_fill.proofs.GivenLeft.{pick_told}
use Rattle.mr_fill.proofs.picking.pick_for.Goals as goal

pub returns-in-Waiter : goal.returns-in-Waiter
returns-in-Waiter c =
    rw c.in-Waiter.is
    (weaker c.waiter.result _ _ (λ pick h. λ s here. pick_told pick _ c.args.chooser.now (h s here)) c.waiter.ensures)
