use Rattle.mr_start.proofs.Common.{thread_step}
use Rattle.mr_frame.proofs.PlanRunLaws.{completed_by_step}
use Rattle.mr_start.proofs.laws.one_at_most.Goals as goal

pub returns : goal.returns
returns c = λ look. completed_by_step (thread_step look)
