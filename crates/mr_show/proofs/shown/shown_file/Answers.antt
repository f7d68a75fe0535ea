use Rattle.mr_show.proofs.Common.{refl, ◌∙◌, [], Some, rose_in_all}
use Rattle.mr_show.proofs.ShownLaws.{no_text, of_file}
use Rattle.mr_show.proofs.shown.shown_file.Goals as goal

pub returns-in-Ok-clause-answer : goal.returns-in-Ok-clause-answer
returns-in-Ok-clause-answer g c = λ contents told.
    of_file c.args.saying (contents c.args.schedule.now) _ c.shown_text.result (contents c.args.program.now)
    c.as_slice.result.now c.in-Ok.text.items _
    (rose_in_all (g.F.Files.faults c.args.files.now) (g.F.Files.faults c.read_text.new.files)
    (g.F.Files.faults c.shown_text.new.files) c.in-Ok.ensures.faults)
    (c.in-Ok.ensures.whole contents told) c.as_slice.ensures.value
    (c.shown_text.ensures.answer contents (c.in-Ok.ensures.same ∙ told))

pub returns-in-Err-clause-answer : goal.returns-in-Err-clause-answer
returns-in-Err-clause-answer g c = λ contents told.
    no_text c.args.saying (contents c.args.schedule.now) _ c.in-Err.refusal (contents c.args.program.now)
    (c.in-Err.ensures.refused contents told)

pub returns-in-Ok-clause-texts : goal.returns-in-Ok-clause-texts
returns-in-Ok-clause-texts g c = λ untold.
    let under = c.shown_text.ensures.texts (c.in-Ok.ensures.same ∙ untold) in
    let text = c.as_slice.result.now in (
      text,
      under.0,
      of_file c.args.saying (Some under.0) _ c.shown_text.result (Some text) text text _
          (rose_in_all (g.F.Files.faults c.args.files.now) (g.F.Files.faults c.read_text.new.files)
          (g.F.Files.faults c.shown_text.new.files) c.in-Ok.ensures.faults)
          refl refl under.1,
    )

pub returns-in-Err-clause-texts : goal.returns-in-Err-clause-texts
returns-in-Err-clause-texts g c = λ untold.
    let texts = c.in-Err.ensures.texts untold in
    (texts.0, [], no_text c.args.saying (Some []) _ c.in-Err.refusal (Some texts.0) texts.1)
