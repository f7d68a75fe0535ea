use Rattle.mr_auto.proofs.LegalRuns.{schedule_legal}
use Rattle.mr_auto.proofs.laws.drawn_schedules_are_legal.Goals as goal

pub returns : goal.returns
returns c = schedule_legal
