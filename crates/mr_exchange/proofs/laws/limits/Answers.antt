use Rattle.mr_exchange.proofs.FootLimits.{limits_of, run_ok}
use Rattle.mr_exchange.proofs.laws.limits.Goals as goal

pub returns : goal.returns
returns c = record { states = limits_of; runs = run_ok }
