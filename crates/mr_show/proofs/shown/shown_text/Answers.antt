use Rattle.mr_show.proofs.Common.{[], Some}
use Rattle.mr_show.proofs.ShownLaws.{of_refused, of_text, was_parsed}
use Rattle.mr_show.proofs.shown.shown_text.Goals as goal

pub shown_program-requires-clause-parsed : goal.shown_program-requires-clause-parsed
shown_program-requires-clause-parsed g c = was_parsed _ c.in-Ok.p c.in-Ok.ensures.given

pub returns-in-Ok-clause-answer : goal.returns-in-Ok-clause-answer
returns-in-Ok-clause-answer g c = λ contents told.
    of_text c.args.saying (contents c.args.schedule.now) _ c.shown_program.result c.args.text.now c.in-Ok.p
    (was_parsed _ c.in-Ok.p c.in-Ok.ensures.given) (c.shown_program.ensures.answer contents told)

pub returns-in-Err-clause-answer : goal.returns-in-Err-clause-answer
returns-in-Err-clause-answer g c = λ contents told.
    of_refused c.args.saying (contents c.args.schedule.now) _ c.args.text.now c.in-Err.refusal c.in-Err.ensures.given

pub returns-in-Ok-clause-texts : goal.returns-in-Ok-clause-texts
returns-in-Ok-clause-texts g c = λ untold.
    let under = c.shown_program.ensures.texts untold in (
      under.0,
      of_text c.args.saying (Some under.0) _ c.shown_program.result c.args.text.now c.in-Ok.p
          (was_parsed _ c.in-Ok.p c.in-Ok.ensures.given) under.1,
    )

pub returns-in-Err-clause-texts : goal.returns-in-Err-clause-texts
returns-in-Err-clause-texts g c = λ untold.
    ([], of_refused c.args.saying (Some []) _ c.args.text.now c.in-Err.refusal c.in-Err.ensures.given)
