use Rattle.mr_value.proofs.Common.{◌-◌, length}
use Rattle.mr_value.proofs.numbers.+spelled_from.Given as goal

abbrev pub decreases-spelled_from : goal.decreases-spelled_from
decreases-spelled_from l = length l.v.now - l.n
