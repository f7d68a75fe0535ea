use Rattle.mr_answer.proofs.Common.{◌≡◌, subst, IfOk, Written, Answer, seen, behind_schedule}
use Rattle.mr_answer.proofs.reordered.with_schedule.Goals as goal

pub returns-clause-answer : goal.returns-clause-answer
returns-clause-answer c =
    subst (λ (a : Answer). IfOk c.behind_schedule.result (λ (x : Written). seen x ≡ behind_schedule c.args.v c.args.order.now a)) c.in_ok-written.ensures.answer
    c.behind_schedule.ensures.answer
