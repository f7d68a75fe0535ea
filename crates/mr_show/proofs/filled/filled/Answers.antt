use Rattle.mr_show.proofs.FillLaws.{bad_told, filled_told}
use Rattle.mr_show.proofs.filled.filled.Goals as goal

pub returns-in-Ok-clause-answer : goal.returns-in-Ok-clause-answer
returns-in-Ok-clause-answer c =
    filled_told c.args.filling c.args.p.now c.args.text.now c.in-Ok.text c.wanted.result c.in-Ok.ensures
    c.wanted.ensures.answer

pub returns-in-Err-Bad-clause-answer : goal.returns-in-Err-Bad-clause-answer
returns-in-Err-Bad-clause-answer c =
    rw c.broken.ensures
    (rw c.in-Err-Bad.field-0-is
    (bad_told c.args.filling c.args.p.now c.args.text.now c.in-Err-Bad.line c.in-Err-Bad.code
    (rw c.in-Err-Bad.field-0-is at c.in-Err-Bad.ensures)))
