use Rattle.mr_exchange.proofs.Placing.{placing_is_rearrangement}
use Rattle.mr_exchange.proofs.rearranging.placed_is_rearranged.Goals as goal

pub returns : goal.returns
returns c = placing_is_rearrangement
