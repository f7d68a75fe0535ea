use Rattle.mr_fill.proofs.FilledLaws.{filled_legal}
use Rattle.mr_fill.proofs.laws.filled_schedules_are_legal.Goals as goal

pub returns : goal.returns
returns c = filled_legal
