use Rattle.mr_command.proofs.Common.{big_answer}
use Rattle.mr_command.proofs.answer.big.Goals as goal

pub returns-in-Ok-clause-answer : goal.returns-in-Ok-clause-answer
returns-in-Ok-clause-answer c = c.answered.ensures.answer (big_answer c.args.number) c.summary.ensures.answer
