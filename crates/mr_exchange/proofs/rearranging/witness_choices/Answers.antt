use Rattle.mr_exchange.proofs.Choices.{kept_selects, short_selects}
use Rattle.mr_exchange.proofs.rearranging.witness_choices.Goals as goal

pub returns : goal.returns
returns c = record { kept = kept_selects; short = short_selects }
