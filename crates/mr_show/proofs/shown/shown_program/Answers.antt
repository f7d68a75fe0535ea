use Rattle.mr_show.proofs.Common.{ap, sym, ◌∙◌, Ok, Some}
use Rattle.mr_show.proofs.ShownLaws.{of_checked}
use Rattle.mr_show.proofs.shown.shown_program.Goals as goal

pub shown_schedule-requires : goal.shown_schedule-requires
shown_schedule-requires g c = c.requires.parsed ∙ ap Ok (sym c.in-Ok.ensures.0)

pub returns-in-Ok-clause-answer : goal.returns-in-Ok-clause-answer
returns-in-Ok-clause-answer g c = λ contents told.
    of_checked c.args.saying (contents c.args.schedule.now) _ c.shown_schedule.result c.args.text.now c.args.p
    c.in-Ok.checked c.in-Ok.ensures (c.shown_schedule.ensures.answer contents told)

pub returns-in-Ok-clause-texts : goal.returns-in-Ok-clause-texts
returns-in-Ok-clause-texts g c = λ untold.
    let under = c.shown_schedule.ensures.texts untold in (
      under.0,
      of_checked c.args.saying (Some under.0) _ c.shown_schedule.result c.args.text.now c.args.p c.in-Ok.checked
          c.in-Ok.ensures under.1,
    )
