use Rattle.mr_exchange.proofs.First.{first_of_predicted, none_predicted, partner_of_predicted}
use Rattle.mr_exchange.proofs.rearranging.first_of_predicted.Goals as goal

pub returns : goal.returns
returns c = record { partner = partner_of_predicted; first = first_of_predicted; none = none_predicted }
