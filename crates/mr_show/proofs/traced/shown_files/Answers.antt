use Rattle.mr_show.proofs.Common.{Some, inl, sym, IfOk-weaker}
use Rattle.mr_show.proofs.TracedLaws.{of_program}
use Rattle.mr_show.proofs.traced.shown_files.Goals as goal

pub returns-in-None-clause-answer : goal.returns-in-None-clause-answer
returns-in-None-clause-answer g c = λ contents told.
    of_program c.args.saying (contents c.args.second.now) _ (contents c.args.first.now) c.shown_file.result
    (sym c.in-None.ensures) (c.shown_file.ensures.answer contents told)

pub returns-in-None-clause-status : goal.returns-in-None-clause-status
returns-in-None-clause-status g c = IfOk-weaker c.shown_file.result _ _ (λ a h. inl h) c.shown_file.ensures.status

pub returns-in-None-clause-texts : goal.returns-in-None-clause-texts
returns-in-None-clause-texts g c = λ untold.
    let texts = c.shown_file.ensures.texts untold in (
      texts.0,
      texts.1,
      of_program c.args.saying (Some texts.1) _ (Some texts.0) c.shown_file.result (sym c.in-None.ensures) texts.2,
    )
