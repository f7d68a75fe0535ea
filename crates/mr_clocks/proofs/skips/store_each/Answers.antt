use Rattle.mr_clocks.proofs.SkipLaws.{skips_pop}
use Rattle.mr_clocks.proofs.skips.store_each.Goals as goal

pub loop-skip-init : goal.loop-skip-init
loop-skip-init c = λ run n links h g. (h, g)

pub loop-skip-preserved : goal.loop-skip-preserved
loop-skip-preserved c = λ run n links h g.
    let both = c.loop-skip.invariant run n links h g in
    let parts = skips_pop run n links c.loop-skip.left.items c.pop.new.self.items c.in-Some.skip c.in-Some.ensures.items both.1 in
    (c.store.ensures run n links both.0 parts.1, parts.0)

pub returns : goal.returns
returns c = λ run n links h g. (c.loop-skip.invariant run n links h g).0
