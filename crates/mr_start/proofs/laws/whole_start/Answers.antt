use Rattle.mr_start.proofs.StartStores.{start_is_whole}
use Rattle.mr_start.proofs.laws.whole_start.Goals as goal

pub returns : goal.returns
returns c = start_is_whole
