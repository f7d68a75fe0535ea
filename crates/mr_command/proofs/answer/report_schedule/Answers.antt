use Rattle.mr_command.proofs.TraceRuns.{spelled_read, unspelled}
use Rattle.mr_command.proofs.answer.report_schedule.Goals as goal

pub returns-in-Ok-clause-spelled : goal.returns-in-Ok-clause-spelled
returns-in-Ok-clause-spelled g c = λ contents told r is.
    spelled_read c.args.format c.args.p.now c.in-Ok.read r _ _ _ c.report_run.result (c.in-Ok.ensures.read contents told) is c.report_run.ensures.spelled

pub returns-in-Err-clause-spelled : goal.returns-in-Err-clause-spelled
returns-in-Err-clause-spelled g c = λ contents told r is. unspelled c.args.format c.args.p.now r.schedule c.in-Err.refusal
