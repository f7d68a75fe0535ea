use Rattle.mr_sched.proofs.Common.{refl}
use Rattle.mr_sched.proofs.Loops.{starred_twice}
use Rattle.mr_sched.proofs.reading.read_starred.Goals as goal

pub returns-in-Some-other : goal.returns-in-Some-other
returns-in-Some-other c =
    let one = rw c.in-Some.is at c.cut.ensures.parts in
    let two = rw c.in-Some-other.is at c.cut-2.ensures.parts in
    rw (c.bad_line.ensures, starred_twice c.args.text.now c.cut.result.0.now c.in-Some.after.now c.cut-2.result.0.now c.in-Some-other.field-0.now one two) refl
