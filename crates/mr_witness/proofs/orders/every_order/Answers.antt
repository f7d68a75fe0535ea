use Rattle.mr_witness.proofs.EveryOrder as law
use Rattle.mr_witness.proofs.orders.every_order.Goals as goal

pub returns : goal.returns
returns c = law.every_order
