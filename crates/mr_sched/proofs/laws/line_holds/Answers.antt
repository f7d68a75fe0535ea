use Rattle.mr_sched.proofs.LineOfLaws.{line_has}
use Rattle.mr_sched.proofs.laws.line_holds.Goals as goal

pub returns : goal.returns
returns c = line_has
