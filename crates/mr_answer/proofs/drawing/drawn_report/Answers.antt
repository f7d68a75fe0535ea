use Rattle.mr_answer.proofs.Common.{◌≡◌, subst, IfOk, One, Written, Answer, seen, behind_schedule}
use Rattle.mr_answer.proofs.drawing.drawn_report.Goals as goal

pub returns-clause-answer : goal.returns-clause-answer
returns-clause-answer c =
    subst (λ (a : Answer). IfOk c.behind_schedule.result (λ (x : Written). seen x ≡ behind_schedule One c.args.run.now.schedule a)) c.in_ok-written.ensures.answer
    c.behind_schedule.ensures.answer
