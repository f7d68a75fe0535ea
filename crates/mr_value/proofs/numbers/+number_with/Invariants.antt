use Rattle.mr_value.proofs.Common.{length}
use Rattle.mr_value.proofs.numbers.+number_with.Given as goal

abbrev pub decreases-number_with : goal.decreases-number_with
decreases-number_with l = length l.numbers.now
