use Rattle.mr_exchange.proofs.Counted.{each, fewer}
use Rattle.mr_exchange.proofs.laws.counts.Goals as goal

pub returns : goal.returns
returns c = record { each = each; fewer = fewer }
