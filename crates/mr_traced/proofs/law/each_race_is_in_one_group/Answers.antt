use Rattle.mr_traced.proofs.OneGroup.{in_one_group}
use Rattle.mr_traced.proofs.law.each_race_is_in_one_group.Goals as goal

pub returns : goal.returns
returns c = in_one_group
