use Rattle.mr_command.proofs.Common.{[], was_read}
use Rattle.mr_command.proofs.TextLaws.{not_upgraded_over, upgraded_over}
use Rattle.mr_command.proofs.answer.upgraded_file.Goals as goal

pub returns-in-Ok-clause-texts : goal.returns-in-Ok-clause-texts
returns-in-Ok-clause-texts g c = λ untold.
    let schedule = c.in-Ok.ensures.texts untold in
    ([], schedule.0, upgraded_over schedule.0 c.in-Ok.read _ c.upgraded.result (was_read c.in-Ok.read _ _ _ schedule.1) c.upgraded.ensures.answer)

pub returns-in-Err-clause-texts : goal.returns-in-Err-clause-texts
returns-in-Err-clause-texts g c = λ untold.
    let schedule = c.in-Err.ensures.texts untold in ([], schedule.0, not_upgraded_over schedule.0 c.in-Err.refusal _ schedule.1)
