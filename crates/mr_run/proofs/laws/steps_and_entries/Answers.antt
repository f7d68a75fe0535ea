use Rattle.mr_run.proofs.StepCount.{steps_within, steps_without_last}
use Rattle.mr_run.proofs.laws.steps_and_entries.Goals as goal

pub returns-clause-most : goal.returns-clause-most
returns-clause-most c = steps_within

pub returns-clause-least : goal.returns-clause-least
returns-clause-least c = steps_without_last
