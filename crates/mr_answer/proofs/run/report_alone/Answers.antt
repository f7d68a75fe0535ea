use Rattle.mr_answer.proofs.Common.{[], None, refl, subst, sym, steps_of, Answer, Tells, told_by, told_in}
use Rattle.mr_run.proofs.OneThread.{none_shown}
use Rattle.mr_answer.proofs.PrintedLaws.{printed_by_run}
use Rattle.mr_answer.proofs.RunLaws.{refused_read, told_bare, told_ran, told_refused}
use Rattle.mr_answer.proofs.run.report_alone.Goals as goal

pub report-requires : goal.report-requires
report-requires c = printed_by_run c.args.p.now c.args.w.now c.in-Ok.machine.config c.in-Ok.ensures.answer.config

pub returns-in-Ok-clause-answer : goal.returns-in-Ok-clause-answer
returns-in-Ok-clause-answer c =
    let p = c.args.p.now in
    let v = c.args.v in
    let w = c.args.w.now in
    let m = c.in-Ok.machine in
    told_ran p v w m (steps_of p w) (told_in c.args.format v w) c.answered.result c.in-Ok.ensures.answer refl
    (subst (λ (a : Answer). Tells a c.answered.result) (sym (told_bare c.args.format v w m.config (steps_of p w) (none_shown p w c.requires.alone)))
    (c.answered.ensures.answer (told_by c.args.format v m.config [] None) c.report.ensures.answer))

pub refusal_of-requires-clause-there : goal.refusal_of-requires-clause-there
refusal_of-requires-clause-there c = c.in-Err.ensures.place

pub returns-in-Err-clause-answer : goal.returns-in-Err-clause-answer
returns-in-Err-clause-answer c =
    rw c.refusal_of.ensures (told_refused c.args.p.now c.args.v c.args.w.now (told_in c.args.format c.args.v c.args.w.now) c.in-Err.fault c.in-Err.ensures.answer)

pub returns-in-Err-clause-read : goal.returns-in-Err-clause-read
returns-in-Err-clause-read c = rw c.refusal_of.ensures (refused_read c.args.v c.args.w.now c.in-Err.fault)
