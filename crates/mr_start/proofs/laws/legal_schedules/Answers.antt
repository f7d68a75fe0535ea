use Rattle.mr_start.proofs.RunLaws.{legal_schedule, no_schedule_fault}
use Rattle.mr_start.proofs.laws.legal_schedules.Goals as goal

pub returns : goal.returns
returns c = λ p w. (legal_schedule p w, no_schedule_fault p w)
