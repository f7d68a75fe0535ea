use Rattle.mr_command.proofs.TextLaws.{checked_reported}
use Rattle.mr_command.proofs.Common.{Some}
use Rattle.mr_input.specs.declared.refusal.Refusal.TheVariants.{Memory}
use Rattle.mr_command.proofs.TraceRuns.{spelled_checked, unspelled}
use Rattle.mr_command.proofs.answer.report_program.Goals as goal

pub returns-in-Ok-clause-texts : goal.returns-in-Ok-clause-texts
returns-in-Ok-clause-texts g c = λ untold.
    let report = c.report_schedule.ensures.texts untold in
    (report.0, checked_reported c.args.format c.args.p c.in-Ok.checked (Some report.0) _ c.report_schedule.result c.in-Ok.ensures report.1)

pub returns-in-Ok-clause-spelled : goal.returns-in-Ok-clause-spelled
returns-in-Ok-clause-spelled g c = λ contents told r spells unbroken.
    spelled_checked c.args.format c.args.p c.in-Ok.checked r.schedule c.report_schedule.result c.in-Ok.ensures
    (c.report_schedule.ensures.spelled contents told r spells)

pub returns-in-Err-Memory-clause-spelled : goal.returns-in-Err-Memory-clause-spelled
returns-in-Err-Memory-clause-spelled g c = λ contents told r spells unbroken. unspelled c.args.format c.args.p r.schedule Memory
