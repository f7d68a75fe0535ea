use Rattle.std.proofs.Common.{rules}
use Rattle.mr_rust_order.proofs.gaps.first_gap.Goals as goal

pub loop-step-init : goal.loop-step-init
loop-step-init c = record { tracks = c.in_ok-analysis.ensures c.args.run.now; on = search rules; here = c.requires.first }
