use Rattle.mr_show.proofs.Common.{trace_of, run_in, seen_bare}
use Rattle.mr_show.specs.declared.form.Telling.TheVariants.{Steps, TwoOrders}
use Rattle.mr_show.proofs.traced.alone.Goals as goal

pub returns-in-Steps-clause-answer : goal.returns-in-Steps-clause-answer
returns-in-Steps-clause-answer c =
    rw c.in-Steps.is
    (c.said.ensures.answer (Steps c.in-Steps.span.from c.in-Steps.span.to)
    (seen_bare (run_in (trace_of c.args.trace.now))) c.steps.ensures.exact)

pub returns-in-TwoOrders-clause-answer : goal.returns-in-TwoOrders-clause-answer
returns-in-TwoOrders-clause-answer c =
    rw c.in-TwoOrders.is
    (c.said-in-TwoOrders.ensures.answer TwoOrders (seen_bare (run_in (trace_of c.args.trace.now)))
    c.orders.ensures.exact)
