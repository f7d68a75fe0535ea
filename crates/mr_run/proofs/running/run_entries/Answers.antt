use Rattle.mr_run.proofs.Common.{[], ◌++◌, arith, subst, foot_by}
use Rattle.std.proofs.lemmas.List.{drop_all}
use Rattle.mr_run.proofs.RunLaws.{all_steps, all_taken, goes_on, is_refused, left_at, sets_out}
use Rattle.mr_run.proofs.running.run_entries.Goals as goal

pub loop-entry-init : goal.loop-entry-init
loop-entry-init g c = ([], c.requires.none, sets_out c.args.machine.now c.args.entries.now c.requires.working)

pub step-requires-clause-working : goal.step-requires-clause-working
step-requires-clause-working g c = c.loop-entry.invariant.2.working

pub step-requires-clause-completed : goal.step-requires-clause-completed
step-requires-clause-completed g c = omega (arith, c.loop-entry.invariant.2.completed, c.loop-entry-test.true, c.requires.completed)

pub step-requires-clause-room : goal.step-requires-clause-room
step-requires-clause-room g c =
    (c.loop-entry.invariant.0, c.loop-entry.invariant.1, omega (arith, c.loop-entry.invariant.2.few, c.loop-entry-test.true, c.requires.few))

pub overflow_add-place : goal.overflow_add-place
overflow_add-place g c = omega (arith, c.loop-entry.invariant.2.place, c.loop-entry-test.true, c.requires.few)

pub loop-entry-preserved : goal.loop-entry-preserved
loop-entry-preserved g c =
    let (steps, keeps, h) = c.loop-entry.invariant in
    let d = left_at c.args.entries.now c.loop-entry.entry-index c.entry-item.result c.loop-entry-test.true c.entry-item.is in (
      steps ++ foot_by c.entry-item.result c.loop-entry.machine,
      c.in-Ok.ensures.kept steps keeps,
      goes_on c.args.machine.now c.loop-entry.machine steps c.loop-entry.place c.loop-entry.entry-index c.args.entries.now h c.entry-item.result d c.step.new.machine c.in-Ok.ensures.answer,
    )

pub returns-in-Err-clause-answer : goal.returns-in-Err-clause-answer
returns-in-Err-clause-answer g c =
    let (steps, keeps, h) = c.loop-entry.invariant in
    let d = left_at c.args.entries.now c.loop-entry.entry-index c.entry-item.result c.loop-entry-test.true c.entry-item.is in
    rw c.at_place.ensures
    (is_refused c.args.machine.now c.loop-entry.machine steps c.loop-entry.place c.loop-entry.entry-index c.args.entries.now h c.entry-item.result d c.step.new.machine c.in-Err.fault c.in-Err.ensures.answer)

pub returns-clause-answer : goal.returns-clause-answer
returns-clause-answer g c =
    let (steps, keeps, h) = c.loop-entry.invariant in
    all_taken c.args.machine.now c.loop-entry.machine steps c.loop-entry.place c.loop-entry.entry-index c.args.entries.now h
    (drop_all c.loop-entry.entry-index c.args.entries.now c.loop-entry-test.false)

pub returns-clause-kept : goal.returns-clause-kept
returns-clause-kept g c =
    let (steps, keeps, h) = c.loop-entry.invariant in
    subst (g.R.Record.keeps c.loop-entry.kept)
    (all_steps c.args.machine.now c.loop-entry.machine steps c.loop-entry.place c.loop-entry.entry-index c.args.entries.now h
    (drop_all c.loop-entry.entry-index c.args.entries.now c.loop-entry-test.false)) keeps
