use Rattle.mr_exchange.proofs.Law.{exchanged_in_run, law_of}
use Rattle.mr_exchange.proofs.Sane.{sound_is_sane}
use Rattle.mr_exchange.proofs.laws.swap.Goals as goal

pub returns : goal.returns
returns c = record { states = law_of; sound = sound_is_sane; runs = exchanged_in_run }
