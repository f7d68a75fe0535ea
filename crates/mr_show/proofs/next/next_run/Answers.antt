use Rattle.mr_show.proofs.Common.{subst, sym, Option, Fault, schedule_fault, Tells, next_from, reached_answer}
use Rattle.mr_answer.proofs.RunLaws.{refused_read}
use Rattle.mr_show.proofs.NextLaws.{start_place, start_told}
use Rattle.mr_show.proofs.next.next_run.Goals as goal

pub written-requires-clause-goes : goal.written-requires-clause-goes
written-requires-clause-goes c = c.in-Ok.ensures.reached

pub returns-in-Ok-clause-answer : goal.returns-in-Ok-clause-answer
returns-in-Ok-clause-answer c =
    let text = c.args.text.now in
    let p = c.args.p.now in
    let w = c.args.w.now in
    subst (λ (f : Option Fault). Tells (next_from text p c.args.v w f) c.answered.result)
    (sym c.in-Ok.ensures.reached.front.legal.start)
    (c.answered.ensures.answer (reached_answer text p w (schedule_fault p w)) c.written.ensures.answer)

pub refusal_of-requires-clause-there : goal.refusal_of-requires-clause-there
refusal_of-requires-clause-there c = start_place c.args.p.now c.args.w.now c.in-Err.fault c.in-Err.ensures.start

pub returns-in-Err-clause-answer : goal.returns-in-Err-clause-answer
returns-in-Err-clause-answer c =
    rw c.refusal_of.ensures
    (start_told c.args.text.now c.args.p.now c.args.v c.args.w.now c.in-Err.fault c.in-Err.ensures.start)

pub returns-in-Err-clause-read : goal.returns-in-Err-clause-read
returns-in-Err-clause-read c = rw c.refusal_of.ensures (refused_read c.args.v c.args.w.now c.in-Err.fault)
