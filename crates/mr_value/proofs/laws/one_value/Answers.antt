use Rattle.mr_value.proofs.Meanings.{same_meaning}
use Rattle.mr_value.proofs.laws.one_value.Goals as goal

pub returns : goal.returns
returns c = same_meaning
