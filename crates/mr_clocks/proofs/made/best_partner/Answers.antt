use Rattle.mr_clocks.proofs.Common.{arith}
use Rattle.mr_clocks.proofs.RowLaws.{greatest_rows}
use Rattle.mr_clocks.proofs.made.best_partner.Goals as goal

pub returns-clause-greatest : goal.returns-clause-greatest
returns-clause-greatest c =
    greatest_rows c.args.run.now c.args.rows.now c.args.links.now c.args.found.now c.args.j c.loop-y.best c.requires.rows c.requires.found
    (λ z lt. c.loop-y.invariant.beyond z (omega (arith, lt)))
