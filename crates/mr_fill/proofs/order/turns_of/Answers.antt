use Rattle.mr_fill.proofs.Common.{refl, turns_of}
use Rattle.mr_fill.proofs.OrderLaws.{starred_twice}
use Rattle.mr_fill.proofs.order.turns_of.Goals as goal

pub returns-in-Some-other : goal.returns-in-Some-other
unfolding turns_of
returns-in-Some-other c =
    let one = rw c.in-Some.is at c.cut.ensures.parts in
    let two = rw c.in-Some-other.is at c.cut-2.ensures.parts in
    rw (starred_twice c.args.line c.args.word.now c.cut.result.0.now c.in-Some.after.now c.cut-2.result.0.now c.in-Some-other.field-0.now one two) refl
