use Rattle.mr_start.proofs.StartSound.{sound_run}
use Rattle.mr_start.proofs.laws.never_ill_formed.Goals as goal

pub returns : goal.returns
returns c = sound_run
