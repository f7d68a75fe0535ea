use Rattle.mr_show.proofs.Common.{◌^◌, ap, inl, refl, Err, Some, longer}
use Rattle.mr_show.proofs.CheckedLaws.{program_long, program_read}
use Rattle.mr_show.proofs.checked.checked_file.Goals as goal

pub returns-in-Ok-clause-answer : goal.returns-in-Ok-clause-answer
returns-in-Ok-clause-answer g c = λ contents told.
    inl (
    program_read c.args.program.now (contents c.args.program.now) c.in-Ok.text.items
    (c.in-Ok.ensures.whole contents told) c.as_slice.result.now c.checked.result c.as_slice.ensures.value
    c.in-Ok.ensures.few c.checked.ensures.answer
    )

pub returns-in-Ok-clause-texts : goal.returns-in-Ok-clause-texts
returns-in-Ok-clause-texts g c = λ untold. (
  c.in-Ok.text.items,
  inl (program_read c.args.program.now (Some c.in-Ok.text.items) c.in-Ok.text.items refl c.as_slice.result.now
      c.checked.result c.as_slice.ensures.value c.in-Ok.ensures.few c.checked.ensures.answer),
)

pub returns-in-Err-Long-clause-answer : goal.returns-in-Err-Long-clause-answer
returns-in-Err-Long-clause-answer g c = λ contents told.
    let long = c.in-Err-Long.ensures.long contents told (ap Err c.in-Err-Long.field-0-is) in
    inl (rw c.long_program.ensures
    (program_long c.args.program.now (contents c.args.program.now) long.0 long.1 long.2))

pub returns-in-Err-Long-clause-texts : goal.returns-in-Err-Long-clause-texts
returns-in-Err-Long-clause-texts g c = λ untold.
    let long = longer (2 ^ 20) in
    (long.0, inl (rw c.long_program.ensures (program_long c.args.program.now (Some long.0) long.0 refl long.1)))
