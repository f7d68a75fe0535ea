use Rattle.mr_answer.proofs.Printing.Runs.{run_plain}
use Rattle.mr_answer.proofs.laws.prints_are_plain.Goals as goal

pub returns : goal.returns
returns c = run_plain
