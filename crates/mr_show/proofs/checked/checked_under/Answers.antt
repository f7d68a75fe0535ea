use Rattle.mr_show.proofs.Common.{◌^◌, ap, inl, refl, Err, Some, longer}
use Rattle.mr_show.proofs.CheckedLaws.{schedule_read, second_long}
use Rattle.mr_show.proofs.checked.checked_under.Goals as goal

pub returns-in-Ok-clause-answer : goal.returns-in-Ok-clause-answer
returns-in-Ok-clause-answer g c = λ contents told.
    inl (
    schedule_read c.args.program.now c.args.text.now c.args.schedule.now (contents c.args.schedule.now)
    c.in-Ok.spelled.items (c.in-Ok.ensures.whole contents told) c.as_slice.result.now c.checked_pair.result
    c.as_slice.ensures.value c.in-Ok.ensures.few c.checked_pair.ensures.answer
    )

pub returns-in-Ok-clause-texts : goal.returns-in-Ok-clause-texts
returns-in-Ok-clause-texts g c = λ untold. (
  c.in-Ok.spelled.items,
  inl (schedule_read c.args.program.now c.args.text.now c.args.schedule.now (Some c.in-Ok.spelled.items)
      c.in-Ok.spelled.items refl c.as_slice.result.now c.checked_pair.result c.as_slice.ensures.value
      c.in-Ok.ensures.few c.checked_pair.ensures.answer),
)

pub returns-in-Err-Long-clause-answer : goal.returns-in-Err-Long-clause-answer
returns-in-Err-Long-clause-answer g c = λ contents told.
    let long = c.in-Err-Long.ensures.long contents told (ap Err c.in-Err-Long.field-0-is) in
    inl (rw c.long_schedule.ensures
    (second_long c.args.program.now c.args.text.now c.args.schedule.now (contents c.args.schedule.now) long.0 long.1
    long.2))

pub returns-in-Err-Long-clause-texts : goal.returns-in-Err-Long-clause-texts
returns-in-Err-Long-clause-texts g c = λ untold.
    let long = longer (2 ^ 26) in (
      long.0,
      inl (rw c.long_schedule.ensures
          (second_long c.args.program.now c.args.text.now c.args.schedule.now (Some long.0) long.0 refl long.1)),
    )
