use Rattle.mr_show.proofs.Common.{◌≡◌, ◌≤◌, List, OnOk, Result, length, subst, sym, Footprint, Answer, RunAnswer, RunFault, Standing, Tells, steps_of}
use Rattle.mr_base.specs.declared.reason.Verdict.{Verdict}
use Rattle.mr_run.proofs.StepCount.{steps_within}
use Rattle.mr_answer.proofs.RunLaws.{refused_read, told_ran, told_refused}
use Rattle.mr_show.specs.Witness.{ran_told, told_of}
use Rattle.mr_show.proofs.witness.ended.Goals as goal

pub written-requires-clause-many : goal.written-requires-clause-many
written-requires-clause-many c =
    let p = c.args.p.now in
    let w = c.args.read.now.schedule in
    let kept =
    subst (λ (o : Result Standing RunFault). OnOk o (c.args.kept.now ≡ steps_of p w)) c.in-Ok.is c.requires.kept in
    subst (λ (l : List Footprint). length l ≤ length w.entries) (sym kept) (steps_within p w)

pub returns-in-Ok-clause-answer : goal.returns-in-Ok-clause-answer
returns-in-Ok-clause-answer c =
    let p = c.args.p.now in
    let r = c.args.read.now in
    let say : Verdict → Answer = λ verdict. told_of c.args.step c.args.selection p r verdict c.args.kept.now in
    let run = subst (RunAnswer p r.schedule) c.in-Ok.is c.requires.run in
    let kept =
    subst (λ (o : Result Standing RunFault). OnOk o (c.args.kept.now ≡ steps_of p r.schedule)) c.in-Ok.is
    c.requires.kept in
    told_ran p r.version r.schedule c.in-Ok.machine c.args.kept.now (ran_told c.args.step c.args.selection p r)
    c.answered.result run kept
    (subst (λ (verdict : Verdict). Tells (say verdict) c.answered.result) c.verdict.ensures
    (c.answered.ensures.answer (say c.verdict.result) c.written.ensures.answer))

pub returns-in-Err-clause-answer : goal.returns-in-Err-clause-answer
returns-in-Err-clause-answer c =
    let p = c.args.p.now in
    let r = c.args.read.now in
    rw c.refusal_of.ensures
    (told_refused p r.version r.schedule (ran_told c.args.step c.args.selection p r) c.in-Err.fault
    (subst (RunAnswer p r.schedule) c.in-Err.is c.requires.run))

pub returns-in-Err-clause-read : goal.returns-in-Err-clause-read
returns-in-Err-clause-read c =
    rw c.refusal_of.ensures (refused_read c.args.read.now.version c.args.read.now.schedule c.in-Err.fault)
