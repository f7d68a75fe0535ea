use Rattle.mr_show.proofs.Common.{Option, subst, Tells, why_answer}
use Rattle.mr_why.specs.Why.{Entry}
use Rattle.mr_show.proofs.answer.explained.Goals as goal

pub returns-in-Some-clause-answer : goal.returns-in-Some-clause-answer
returns-in-Some-clause-answer c =
    subst (λ (e : Option Entry). Tells (why_answer c.args.code e) c.said.result) c.in-Some.ensures c.said.ensures.answer

pub returns-in-None-clause-answer : goal.returns-in-None-clause-answer
returns-in-None-clause-answer c =
    subst (λ (e : Option Entry). Tells (why_answer c.args.code e) c.unsaid.result) c.in-None.ensures
    c.unsaid.ensures.answer
