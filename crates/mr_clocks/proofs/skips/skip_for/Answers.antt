use Rattle.mr_clocks.proofs.Common.{◌<◌, length, subst, arith, IsServing}
use Rattle.mr_clocks.proofs.SkipLaws.{skip_read}
use Rattle.mr_clocks.proofs.skips.skip_for.Goals as goal

pub returns-then-serves : goal.returns-then-serves
returns-then-serves c =
    let lt : c.loop-m.m < length c.args.skips.now = omega arith in
    (lt, subst (λ s. IsServing c.args.run.now s c.args.at c.args.j) (skip_read c.args.skips.now c.loop-m.m c.index-skips-m.result lt c.index-skips-m.is) (c.serves.ensures c.if-serves.true))
