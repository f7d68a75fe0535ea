use Rattle.mr_show.proofs.WitnessLaws.{first_told}
use Rattle.mr_show.proofs.witness.first_race_is_shown.Goals as goal

pub returns : goal.returns
returns c = first_told
