use Rattle.mr_command.proofs.Common.{[], ◌∙◌, was_read}
use Rattle.mr_input.proofs.InputLaws.{rose_in_all}
use Rattle.mr_command.proofs.TextLaws.{run_over, unread_over}
use Rattle.mr_command.proofs.TraceRuns.{spelled_program, unspelled}
use Rattle.mr_command.proofs.answer.report_files.Goals as goal

pub returns-in-Ok-clause-texts : goal.returns-in-Ok-clause-texts
returns-in-Ok-clause-texts g c = λ untold.
    let program = c.in-Ok.ensures.texts untold in
    let schedule = c.report_program.ensures.texts (c.in-Ok.ensures.same ∙ untold) in (
      program.0,
      schedule.0,
      run_over c.args.format program.0 schedule.0 c.in-Ok.p _ _ c.report_program.result
          (rose_in_all (g.F.Files.faults c.args.files.now) (g.F.Files.faults c.read_program.new.files) (g.F.Files.faults c.report_program.new.files)
          c.in-Ok.ensures.faults)
          (was_read c.in-Ok.p _ _ _ program.1) schedule.1,
    )

pub returns-in-Err-clause-texts : goal.returns-in-Err-clause-texts
returns-in-Err-clause-texts g c = λ untold.
    let program = c.in-Err.ensures.texts untold in (program.0, [], unread_over c.args.format program.0 c.in-Err.refusal _ program.1)

pub returns-in-Ok-clause-spelled : goal.returns-in-Ok-clause-spelled
returns-in-Ok-clause-spelled g c = λ contents told p r is unbroken spells.
    spelled_program c.args.format c.in-Ok.p p r.schedule _ _ _ c.report_program.result (c.in-Ok.ensures.read contents told) is unbroken
    (c.report_program.ensures.spelled contents (c.in-Ok.ensures.same ∙ told) r spells)

pub returns-in-Err-clause-spelled : goal.returns-in-Err-clause-spelled
returns-in-Err-clause-spelled g c = λ contents told p r is unbroken spells. unspelled c.args.format p r.schedule c.in-Err.refusal
