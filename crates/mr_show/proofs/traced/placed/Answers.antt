use Rattle.mr_show.proofs.Common.{subst, Answer, Tells, trace_of, named_of, run_in, seen_in, IsTextOf}
use Rattle.mr_traced.specs.Races.{IsRacesText}
use Rattle.mr_show.specs.declared.form.Telling.TheVariants.{Picture, Races, Steps, TwoOrders}
use Rattle.mr_show.proofs.TracedLaws.{short_text, told_as}
use Rattle.mr_show.proofs.traced.placed.Goals as goal

pub returns-in-Races-clause-answer : goal.returns-in-Races-clause-answer
returns-in-Races-clause-answer c =
    rw c.in-Races.is
    (subst (λ (a : Answer). Tells a c.said.result)
    (short_text Races c.args.trace.now c.args.places.now c.if-places-gt-MAX_BYTES.false)
    (c.said.ensures.answer Races (seen_in (run_in (trace_of c.args.trace.now)) (named_of c.args.places.now))
    (told_as IsRacesText (IsTextOf Races) (λ s text h. h.1) c.races.result
    (seen_in (run_in (trace_of c.args.trace.now)) (named_of c.args.places.now)) c.races.ensures.exact)))

pub returns-in-TwoOrders-clause-answer : goal.returns-in-TwoOrders-clause-answer
returns-in-TwoOrders-clause-answer c =
    rw c.in-TwoOrders.is
    (subst (λ (a : Answer). Tells a c.said-in-TwoOrders.result)
    (short_text TwoOrders c.args.trace.now c.args.places.now c.if-places-gt-MAX_BYTES.false)
    (c.said-in-TwoOrders.ensures.answer TwoOrders
    (seen_in (run_in (trace_of c.args.trace.now)) (named_of c.args.places.now)) c.orders.ensures.exact))

pub returns-in-Steps-clause-answer : goal.returns-in-Steps-clause-answer
returns-in-Steps-clause-answer c =
    rw c.in-Steps.is
    (subst (λ (a : Answer). Tells a c.said-in-Steps.result)
    (short_text (Steps c.in-Steps.from c.in-Steps.to) c.args.trace.now c.args.places.now c.if-places-gt-MAX_BYTES.false)
    (c.said-in-Steps.ensures.answer (Steps c.in-Steps.from c.in-Steps.to)
    (seen_in (run_in (trace_of c.args.trace.now)) (named_of c.args.places.now)) c.steps.ensures.exact))

pub returns-in-Picture-clause-answer : goal.returns-in-Picture-clause-answer
returns-in-Picture-clause-answer c =
    rw c.in-Picture.is
    (subst (λ (a : Answer). Tells a c.said-in-Picture.result)
    (short_text (Picture c.in-Picture.asked) c.args.trace.now c.args.places.now c.if-places-gt-MAX_BYTES.false)
    (c.said-in-Picture.ensures.answer (Picture c.in-Picture.asked)
    (seen_in (run_in (trace_of c.args.trace.now)) (named_of c.args.places.now)) c.picture.ensures.exact))
