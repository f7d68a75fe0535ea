use Rattle.mr_answer.proofs.Common.{[], None, subst, Text, Answer, Tells, behind_schedule, ordered_answer, told_by}
use Rattle.mr_answer.proofs.PrintedLaws.{printed_by_run}
use Rattle.mr_answer.proofs.ReorderedLaws.{again_is}
use Rattle.mr_answer.proofs.RunLaws.{refused_again, refused_read}
use Rattle.mr_answer.proofs.reordered.run_again.Goals as goal

pub with_schedule-requires : goal.with_schedule-requires
with_schedule-requires c = printed_by_run c.args.p.now c.args.order.now c.in-Ok.machine.config c.in-Ok.ensures.answer.config

pub returns-in-Ok-clause-answer : goal.returns-in-Ok-clause-answer
returns-in-Ok-clause-answer c =
    subst (λ (a : Answer). Tells a c.answered.result) (again_is c.args.p.now c.args.v c.args.order.now c.in-Ok.machine.config c.in-Ok.ensures.answer.config c.requires.silent)
    (c.answered.ensures.answer (behind_schedule c.args.v c.args.order.now (told_by Text c.args.v c.in-Ok.machine.config [] None)) c.with_schedule.ensures.answer)

pub refusal_of-requires-clause-there : goal.refusal_of-requires-clause-there
refusal_of-requires-clause-there c = c.in-Err.ensures.place

pub returns-in-Err-clause-answer : goal.returns-in-Err-clause-answer
returns-in-Err-clause-answer c =
    rw c.refusal_of.ensures
    (refused_again c.args.p.now c.args.v c.args.order.now c.in-Err.fault (ordered_answer c.args.p.now c.args.v c.args.order.now) c.requires.legal c.in-Err.ensures.answer)

pub returns-in-Err-clause-read : goal.returns-in-Err-clause-read
returns-in-Err-clause-read c = rw c.refusal_of.ensures (refused_read c.args.v c.args.order.now c.in-Err.fault)
