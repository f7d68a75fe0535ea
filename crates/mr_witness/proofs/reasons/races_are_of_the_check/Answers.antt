use Rattle.mr_witness.proofs.Runs.{never_raced}
use Rattle.mr_witness.proofs.reasons.races_are_of_the_check.Goals as goal

pub returns : goal.returns
returns c = never_raced
