use Rattle.mr_clocks.proofs.Common.{◌-◌, arith}
use Rattle.mr_clocks.proofs.made.partner_of.Goals as goal

pub returns-else-best-eq0 : goal.returns-else-best-eq0
returns-else-best-eq0 c =
    record {
      pair = c.best_partner-best.ensures.partner (c.best_partner-best.result - 1) (omega arith);
      greatest = λ k low r. let lt = c.best_partner-best.ensures.greatest k r in omega (arith, lt, low);
    }
