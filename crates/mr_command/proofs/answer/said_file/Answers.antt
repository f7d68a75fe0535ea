use Rattle.mr_command.proofs.Common.{[]}
use Rattle.mr_command.proofs.TextLaws.{unsaid_over}
use Rattle.mr_command.proofs.answer.said_file.Goals as goal

pub returns-in-Err-clause-texts : goal.returns-in-Err-clause-texts
returns-in-Err-clause-texts g c = λ untold.
    let program = c.in-Err.ensures.texts untold in (program.0, [], unsaid_over c.args.saying program.0 c.in-Err.refusal _ program.1)
