use Rattle.mr_answer.proofs.Common.{◌≤◌, List, length, subst, sym, Footprint, steps_within, told_in}
use Rattle.mr_answer.proofs.PrintedLaws.{printed_by_run}
use Rattle.mr_answer.proofs.RunLaws.{refused_read, told_ran, told_refused}
use Rattle.mr_answer.proofs.run.report_plainly.Goals as goal

pub report_kept-requires-clause-steps : goal.report_kept-requires-clause-steps
report_kept-requires-clause-steps c =
    subst (λ (l : List Footprint). length l ≤ length c.args.w.now.entries) (sym c.in-Ok.ensures.kept) (steps_within c.args.p.now c.args.w.now)

pub report_kept-requires-clause-texts : goal.report_kept-requires-clause-texts
report_kept-requires-clause-texts c = printed_by_run c.args.p.now c.args.w.now c.in-Ok.machine.config c.in-Ok.ensures.answer.config

pub returns-in-Ok-clause-answer : goal.returns-in-Ok-clause-answer
returns-in-Ok-clause-answer c =
    told_ran c.args.p.now c.args.v c.args.w.now c.in-Ok.machine c.run.new.kept (told_in c.args.format c.args.v c.args.w.now) c.answered.result c.in-Ok.ensures.answer c.in-Ok.ensures.kept
    (c.answered.ensures.answer (told_in c.args.format c.args.v c.args.w.now (record { config = c.in-Ok.machine.config; steps = c.run.new.kept })) c.report_kept.ensures.answer)

pub refusal_of-requires-clause-there : goal.refusal_of-requires-clause-there
refusal_of-requires-clause-there c = c.in-Err.ensures.place

pub returns-clause-answer : goal.returns-clause-answer
returns-clause-answer c =
    rw c.refusal_of.ensures (told_refused c.args.p.now c.args.v c.args.w.now (told_in c.args.format c.args.v c.args.w.now) c.in-Err.fault c.in-Err.ensures.answer)

pub returns-clause-read : goal.returns-clause-read
returns-clause-read c = rw c.refusal_of.ensures (refused_read c.args.v c.args.w.now c.in-Err.fault)
