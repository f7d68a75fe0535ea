use Rattle.mr_witness.proofs.Kept.{first_witness}
use Rattle.mr_witness.proofs.laws.first_race_has_a_witness.Goals as goal

pub returns : goal.returns
returns c = first_witness
