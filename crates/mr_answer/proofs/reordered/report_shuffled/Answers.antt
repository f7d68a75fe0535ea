use Rattle.mr_answer.proofs.Common.{reported}
use Rattle.mr_answer.specs.declared.formats.Format.TheVariants.{Shuffled}
use Rattle.mr_answer.proofs.RunLaws.{refused_read, told_ran, told_refused}
use Rattle.mr_answer.proofs.reordered.report_shuffled.Goals as goal

pub returns-in-Ok-clause-answer : goal.returns-in-Ok-clause-answer
returns-in-Ok-clause-answer c =
    told_ran c.args.p.now c.args.v c.args.w.now c.in-Ok.machine c.run.new.kept (reported (Shuffled c.args.number) c.args.p.now c.args.v c.args.w.now) c.shuffled_run.result
    c.in-Ok.ensures.answer c.in-Ok.ensures.kept c.shuffled_run.ensures.answer

pub refusal_of-requires-clause-there : goal.refusal_of-requires-clause-there
refusal_of-requires-clause-there c = c.in-Err.ensures.place

pub returns-clause-answer : goal.returns-clause-answer
returns-clause-answer c =
    rw c.refusal_of.ensures
    (told_refused c.args.p.now c.args.v c.args.w.now (reported (Shuffled c.args.number) c.args.p.now c.args.v c.args.w.now) c.in-Err.fault c.in-Err.ensures.answer)

pub returns-clause-read : goal.returns-clause-read
returns-clause-read c = rw c.refusal_of.ensures (refused_read c.args.v c.args.w.now c.in-Err.fault)
