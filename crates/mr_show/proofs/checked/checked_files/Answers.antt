use Rattle.mr_show.proofs.Common.{◌∙◌, ◌^◌, [], ap, inl, refl, Err, Some, longer, rose_in_all}
use Rattle.mr_show.proofs.CheckedLaws.{both_read, first_long}
use Rattle.mr_show.proofs.checked.checked_files.Goals as goal

pub returns-in-Ok-clause-answer : goal.returns-in-Ok-clause-answer
returns-in-Ok-clause-answer g c = λ contents told.
    both_read c.args.program.now (contents c.args.program.now) c.in-Ok.text.items
    (c.in-Ok.ensures.whole contents told) c.args.schedule.now (contents c.args.schedule.now) c.as_slice.result.now _ _
    c.checked_under.result
    (rose_in_all (g.F.Files.faults c.args.files.now) (g.F.Files.faults c.read_whole.new.files)
    (g.F.Files.faults c.checked_under.new.files) c.in-Ok.ensures.faults)
    c.as_slice.ensures.value c.in-Ok.ensures.few (c.checked_under.ensures.answer contents (c.in-Ok.ensures.same ∙ told))

pub returns-in-Ok-clause-texts : goal.returns-in-Ok-clause-texts
returns-in-Ok-clause-texts g c = λ untold.
    let under = c.checked_under.ensures.texts (c.in-Ok.ensures.same ∙ untold) in
    let text = c.in-Ok.text.items in (
      text,
      under.0,
      both_read c.args.program.now (Some text) text refl c.args.schedule.now (Some under.0) c.as_slice.result.now _ _
          c.checked_under.result
          (rose_in_all (g.F.Files.faults c.args.files.now) (g.F.Files.faults c.read_whole.new.files)
          (g.F.Files.faults c.checked_under.new.files) c.in-Ok.ensures.faults)
          c.as_slice.ensures.value c.in-Ok.ensures.few under.1,
    )

pub returns-in-Err-Long-clause-answer : goal.returns-in-Err-Long-clause-answer
returns-in-Err-Long-clause-answer g c = λ contents told.
    let long = c.in-Err-Long.ensures.long contents told (ap Err c.in-Err-Long.field-0-is) in
    inl (rw c.long_program.ensures
    (first_long c.args.program.now (contents c.args.program.now) long.0 long.1 c.args.schedule.now
    (contents c.args.schedule.now) long.2))

pub returns-in-Err-Long-clause-texts : goal.returns-in-Err-Long-clause-texts
returns-in-Err-Long-clause-texts g c = λ untold.
    let long = longer (2 ^ 20) in (
      long.0,
      [],
      inl (rw c.long_program.ensures
          (first_long c.args.program.now (Some long.0) long.0 refl c.args.schedule.now (Some []) long.1)),
    )
