use Rattle.mr_picture.proofs.Common.{HappensBefore, happens_before, happens_before_is}
use Rattle.mr_picture.proofs.Turns.{alike}
use Rattle.mr_picture.proofs.order.is_before.Goals as goal

pub returns : goal.returns
returns c =
    alike c.orders.result (happens_before c.args.run.now c.args.i c.args.k)
    (HappensBefore c.args.run.now c.args.i c.args.k) c.orders.ensures (happens_before_is c.args.run.now c.args.i c.args.k)
