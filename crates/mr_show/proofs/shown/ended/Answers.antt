use Rattle.mr_show.proofs.Common.{subst, RunAnswer, spoken_of, length, part_answer, part_values, IsToldAs, gathered}
use Rattle.mr_answer.proofs.RunLaws.{refused_read}
use Rattle.mr_show.proofs.ShownLaws.{told_broken, told_run}
use Rattle.mr_show.proofs.shown.ended.Goals as goal

pub returns-in-Ok-clause-answer : goal.returns-in-Ok-clause-answer
returns-in-Ok-clause-answer c =
    let p = c.args.p.now in
    let w = c.args.w.now in
    let a = part_answer c.args.part (spoken_of p w) (part_values c.args.part p w c.args.rows.items c.args.kept.now)
    (gathered c.args.text.now p c.in-Ok.machine.config (length w.entries) c.args.rows.items c.args.told.now
    c.args.stood.now c.args.kept.now) in
    let run = subst (RunAnswer p w) c.in-Ok.is c.requires.run in
    let is =
    subst (IsToldAs c.args.part c.args.text.now p w c.args.rows.items c.args.told.now c.args.stood.now c.args.kept.now)
    c.in-Ok.is c.requires.told in
    told_run c.args.part c.args.text.now p c.args.v w c.in-Ok.machine a c.answered.result run is
    (c.answered.ensures.answer a c.laid.ensures.answer)

pub returns-in-Err-clause-answer : goal.returns-in-Err-clause-answer
returns-in-Err-clause-answer c =
    rw c.refusal_of.ensures
    (told_broken c.args.part c.args.text.now c.args.p.now c.args.v c.args.w.now c.in-Err.fault
    (subst (RunAnswer c.args.p.now c.args.w.now) c.in-Err.is c.requires.run))

pub returns-in-Err-clause-read : goal.returns-in-Err-clause-read
returns-in-Err-clause-read c = rw c.refusal_of.ensures (refused_read c.args.v c.args.w.now c.in-Err.fault)
