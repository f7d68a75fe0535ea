use Rattle.mr_show.proofs.Common.{refl, Some, seek_of}
use Rattle.mr_show.proofs.HuntLaws.{hunt_read, hunt_unread}
use Rattle.mr_show.proofs.hunted.hunted_file.Goals as goal

pub returns-in-Ok-clause-answer : goal.returns-in-Ok-clause-answer
returns-in-Ok-clause-answer g c = λ contents told.
    hunt_read c.args.range (seek_of c.args.seek) c.args.program.now _ (contents c.args.program.now)
    c.as_slice.result.now c.in-Ok.text.items c.hunted_text.result (c.in-Ok.ensures.whole contents told)
    c.as_slice.ensures.value c.hunted_text.ensures.answer

pub returns-in-Err-clause-answer : goal.returns-in-Err-clause-answer
returns-in-Err-clause-answer g c = λ contents told.
    hunt_unread c.args.range (seek_of c.args.seek) c.args.program.now _ (contents c.args.program.now)
    c.in-Err.refusal (c.in-Err.ensures.refused contents told)

pub returns-in-Ok-clause-texts : goal.returns-in-Ok-clause-texts
returns-in-Ok-clause-texts g c = λ untold.
    let text = c.as_slice.result.now in (
      text,
      hunt_read c.args.range (seek_of c.args.seek) c.args.program.now _ (Some text) text text
          c.hunted_text.result refl refl c.hunted_text.ensures.answer,
    )

pub returns-in-Err-clause-texts : goal.returns-in-Err-clause-texts
returns-in-Err-clause-texts g c = λ untold.
    let texts = c.in-Err.ensures.texts untold in (
      texts.0,
      hunt_unread c.args.range (seek_of c.args.seek) c.args.program.now _ (Some texts.0) c.in-Err.refusal
          texts.1,
    )
