use Rattle.mr_why.proofs.NumberLaws.{number_found}
use Rattle.mr_why.proofs.law.each_is_found.Goals as goal

pub returns : goal.returns
returns c = number_found
