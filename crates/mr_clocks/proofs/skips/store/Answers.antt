use Rattle.mr_clocks.proofs.Common.{arith}
use Rattle.mr_clocks.proofs.SkipLaws.{skips_set}
use Rattle.mr_clocks.proofs.skips.store.Goals as goal

pub returns-then-slot-len : goal.returns-then-slot-len
returns-then-slot-len c = λ run n links h g. h

pub returns : goal.returns
returns c = λ run n links h g.
    let skips = c.args.skips.now.items in
    skips_set run n links skips c.slot-slot.result c.args.skip (omega arith) h g
