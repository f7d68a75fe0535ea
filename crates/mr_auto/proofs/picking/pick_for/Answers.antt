use Rattle.mr_auto.proofs.picking.pick_for.Goals as goal

pub returns-in-Waiter : goal.returns-in-Waiter
returns-in-Waiter c = rw c.in-Waiter.is c.waiter.ensures
