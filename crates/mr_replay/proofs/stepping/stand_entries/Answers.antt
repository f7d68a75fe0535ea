use Rattle.mr_replay.proofs.Common.{[], ◌++◌, arith, subst, foot_by, all_steps, all_taken, goes_on, is_refused, left_at, sets_out}
use Rattle.std.proofs.lemmas.List.{drop_all}
use Rattle.mr_replay.proofs.ToldLaws.{all_placed, places_on, starts_placing}
use Rattle.mr_replay.proofs.stepping.stand_entries.Goals as goal

pub loop-entry-init : goal.loop-entry-init
loop-entry-init g c = (
  [],
  c.requires.none,
  sets_out c.args.machine.now c.args.entries.now c.requires.working,
  starts_placing c.args.machine.now c.args.stands.now.items c.args.entries.now,
)

pub stand_step-requires-clause-working : goal.stand_step-requires-clause-working
stand_step-requires-clause-working g c = c.loop-entry.invariant.2.working

pub stand_step-requires-clause-completed : goal.stand_step-requires-clause-completed
stand_step-requires-clause-completed g c =
    omega (arith, c.loop-entry.invariant.2.completed, c.loop-entry-test.true, c.requires.completed)

pub stand_step-requires-clause-room : goal.stand_step-requires-clause-room
stand_step-requires-clause-room g c = (
  c.loop-entry.invariant.0,
  c.loop-entry.invariant.1,
  omega (arith, c.loop-entry.invariant.2.few, c.loop-entry-test.true, c.requires.few),
)

pub overflow_add-place : goal.overflow_add-place
overflow_add-place g c = omega (arith, c.loop-entry.invariant.2.place, c.loop-entry-test.true, c.requires.few)

pub loop-entry-preserved : goal.loop-entry-preserved
loop-entry-preserved g c =
    let (feet, keeps, h, t) = c.loop-entry.invariant in
    let first = c.args.machine.now in
    let m = c.loop-entry.machine in
    let es = c.args.entries.now in
    let e = c.entry-item.result in
    let i = c.loop-entry.entry-index in
    let d = left_at es i e c.loop-entry-test.true c.entry-item.is in (
      feet ++ foot_by e m,
      c.in-Ok.ensures.kept feet keeps,
      goes_on first m feet c.loop-entry.place i es h e d c.stand_step.new.machine c.in-Ok.ensures.answer,
      places_on first m c.args.stands.now.items c.loop-entry.stands.items c.stand_step.new.stands.items i es t e
          c.loop-entry-test.true c.entry-item.is h.look c.stand_step.new.machine c.in-Ok.ensures.answer
          c.in-Ok.ensures.stood,
    )

pub returns-in-Err-clause-answer : goal.returns-in-Err-clause-answer
returns-in-Err-clause-answer g c =
    let (feet, keeps, h, t) = c.loop-entry.invariant in
    let d = left_at c.args.entries.now c.loop-entry.entry-index c.entry-item.result c.loop-entry-test.true c.entry-item.is in
    rw c.at_place.ensures
    (is_refused c.args.machine.now c.loop-entry.machine feet c.loop-entry.place c.loop-entry.entry-index c.args.entries.now
    h c.entry-item.result d c.stand_step.new.machine c.in-Err.fault c.in-Err.ensures.answer)

pub returns-clause-answer : goal.returns-clause-answer
returns-clause-answer g c =
    let (feet, keeps, h, t) = c.loop-entry.invariant in
    all_taken c.args.machine.now c.loop-entry.machine feet c.loop-entry.place c.loop-entry.entry-index c.args.entries.now h
    (drop_all c.loop-entry.entry-index c.args.entries.now c.loop-entry-test.false)

pub returns-clause-kept : goal.returns-clause-kept
returns-clause-kept g c =
    let (feet, keeps, h, t) = c.loop-entry.invariant in
    subst (g.R.Record.keeps c.loop-entry.kept)
    (all_steps c.args.machine.now c.loop-entry.machine feet c.loop-entry.place c.loop-entry.entry-index c.args.entries.now h
    (drop_all c.loop-entry.entry-index c.args.entries.now c.loop-entry-test.false)) keeps

pub returns-clause-stood : goal.returns-clause-stood
returns-clause-stood g c =
    let (feet, keeps, h, t) = c.loop-entry.invariant in
    all_placed c.args.machine.now c.loop-entry.machine c.args.stands.now.items c.loop-entry.stands.items
    c.loop-entry.entry-index c.args.entries.now t c.loop-entry-test.false
