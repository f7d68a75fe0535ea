use Rattle.mr_start.proofs.RunLaws.{feet_of_run}
use Rattle.mr_start.proofs.laws.feet_counted.Goals as goal

pub returns : goal.returns
returns c = feet_of_run
