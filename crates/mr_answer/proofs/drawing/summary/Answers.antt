use Rattle.mr_answer.proofs.Common.{◌≡◌, subst, IfOk, Written, Answer, seen}
use Rattle.mr_answer.proofs.RunLaws.{summary_is}
use Rattle.mr_answer.proofs.drawing.summary.Goals as goal

pub returns-in-Ok-clause-answer : goal.returns-in-Ok-clause-answer
returns-in-Ok-clause-answer c =
    let run = c.in-Ok.run' in
    subst (λ (a : Answer). IfOk c.summed.result (λ (x : Written). seen x ≡ a))
    (summary_is c.args.p.now c.args.number c.len.result run.schedule run.machine.config c.draw.new.kept c.races.result.now c.requires c.in-Ok.ensures.schedule c.len.ensures
    c.in-Ok.ensures.run.config c.in-Ok.ensures.kept c.races.ensures)
    c.summed.ensures.answer
