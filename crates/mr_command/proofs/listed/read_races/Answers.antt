use Rattle.mr_command.proofs.Common.{inl, ap, ◌∙◌, Err, told, listed}
use Rattle.mr_command.proofs.ListedLaws.{long_trace, some_long_trace}
use Rattle.mr_command.proofs.TraceRuns.{bytes_long, bytes_read, of_bytes}
use Rattle.mr_command.proofs.listed.read_races.Goals as goal

pub returns-in-Err-Long-clause-answer : goal.returns-in-Err-Long-clause-answer
returns-in-Err-Long-clause-answer g c = λ contents told-is.
    let long = c.in-Err-Long.ensures.long contents told-is (ap Err c.in-Err-Long.field-0-is) in
    inl (ap (told listed) (long_trace (contents c.args.trace.now) long.0 long.1 long.2))

pub returns-in-Err-Long-clause-texts : goal.returns-in-Err-Long-clause-texts
returns-in-Err-Long-clause-texts g c = λ untold. (some_long_trace.0, inl (ap (told listed) some_long_trace.1))

pub returns-in-Ok-clause-bytes : goal.returns-in-Ok-clause-bytes
returns-in-Ok-clause-bytes g c = λ contents told-is.
    let (bytes, there, limit, is) = c.in-Ok.ensures.whole contents told-is in
    of_bytes (contents c.args.trace.now) c.races_shown.result
    (bytes_read (contents c.args.trace.now) bytes c.new-bytes.result.items _ there c.new-bytes.ensures.items (c.as_slice.ensures.value ∙ is) c.races_shown.ensures.bytes)

pub returns-in-Err-Long-clause-bytes : goal.returns-in-Err-Long-clause-bytes
returns-in-Err-Long-clause-bytes g c = λ contents told-is.
    let long = c.in-Err-Long.ensures.long contents told-is (ap Err c.in-Err-Long.field-0-is) in
    bytes_long (contents c.args.trace.now) long.0 long.1 long.2
