use Rattle.std.proofs.Common.{inl, ap}
use Rattle.std.specs.Prelude.{Err}
use Rattle.mr_input.proofs.InputLaws.{long_schedule, some_long_schedule}
use Rattle.mr_input.proofs.input.read_schedule.Goals as goal

pub returns-in-Err-Long-clause-read : goal.returns-in-Err-Long-clause-read
returns-in-Err-Long-clause-read g c = λ contents told.
    let long = c.in-Err-Long.ensures.long contents told (ap Err c.in-Err-Long.field-0-is) in
    inl (rw c.broken.ensures (long_schedule (contents c.args.name.now) long.0 long.1 long.2))

pub returns-in-Err-Long-clause-texts : goal.returns-in-Err-Long-clause-texts
returns-in-Err-Long-clause-texts g c = λ untold. (some_long_schedule.0, inl (rw c.broken.ensures some_long_schedule.1))
