use Rattle.mr_rust_order.proofs.Common.{arith, subst, on_ok_weaker, Event, told_by, IsJoin}
use Rattle.mr_rust_order.proofs.ClockLaws.{join_one, raised_on}
use Rattle.mr_rust_order.proofs.StepLaws.{clock_made, rows_short}
use Rattle.mr_rust_order.proofs.analysis.receive_all.Goals as goal

pub read_all-requires-clause-short : goal.read_all-requires-clause-short
read_all-requires-clause-short c = rows_short c.args.run.now c.args.j c.args.rows.now c.requires.rows (omega arith)

pub returns-clause-before : goal.returns-clause-before
returns-clause-before c =
    let f = c.step_of-step.result.now in
    let locks = c.args.locks.now in
    let ended = c.args.ended.now in
    let one = c.args.clock.now in
    let two = c.receive_event.new.clock in
    let told = subst (λ (e : Event). IsJoin one (told_by e locks ended) two) c.event.ensures c.in_ok-receive_event.ensures in
    on_ok_weaker c.read_all.result
    (λ j.
    clock_made c.args.run.now c.args.j f locks ended c.args.rows.now one two c.read_all.new.clock c.step_of-step.ensures c.requires.own c.requires.locks c.requires.ended c.requires.rows told j)
    c.read_all.ensures.joined

pub returns-clause-raised : goal.returns-clause-raised
returns-clause-raised c =
    let one = c.args.clock.now in
    let two = c.receive_event.new.clock in
    on_ok_weaker c.read_all.result (λ j. raised_on one two c.read_all.new.clock (join_one one _ two c.in_ok-receive_event.ensures) j.raised) c.read_all.ensures.joined
