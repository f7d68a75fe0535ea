use Rattle.mr_replay.proofs.Common.{[], ◌++◌, arith, subst, foot_by, all_steps, all_taken, goes_on, is_refused, left_at, sets_out}
use Rattle.std.proofs.lemmas.List.{drop_all}
use Rattle.mr_replay.proofs.ToldLaws.{all_rows, all_told, starts_telling, tells_on}
use Rattle.mr_replay.proofs.telling.tell_entries.Goals as goal

pub loop-entry-init : goal.loop-entry-init
loop-entry-init g c = (
  [],
  c.requires.none,
  sets_out c.args.machine.now c.args.entries.now c.requires.working,
  starts_telling c.args.p.now c.args.part c.args.machine.now c.args.rows.now.items c.args.steps.now.items
      c.args.entries.now,
)

pub tell_step-requires-clause-working : goal.tell_step-requires-clause-working
tell_step-requires-clause-working g c = c.loop-entry.invariant.2.working

pub tell_step-requires-clause-completed : goal.tell_step-requires-clause-completed
tell_step-requires-clause-completed g c =
    omega (arith, c.loop-entry.invariant.2.completed, c.loop-entry-test.true, c.requires.completed)

pub tell_step-requires-clause-room : goal.tell_step-requires-clause-room
tell_step-requires-clause-room g c = (
  c.loop-entry.invariant.0,
  c.loop-entry.invariant.1,
  omega (arith, c.loop-entry.invariant.2.few, c.loop-entry-test.true, c.requires.few),
)

pub overflow_add-place : goal.overflow_add-place
overflow_add-place g c = omega (arith, c.loop-entry.invariant.2.place, c.loop-entry-test.true, c.requires.few)

pub overflow_add-number : goal.overflow_add-number
overflow_add-number g c = omega (arith, c.loop-entry.invariant.3.way.counted, c.loop-entry-test.true, c.requires.few)

pub loop-entry-preserved : goal.loop-entry-preserved
loop-entry-preserved g c =
    let (feet, keeps, h, t) = c.loop-entry.invariant in
    let first = c.args.machine.now in
    let m = c.loop-entry.machine in
    let es = c.args.entries.now in
    let e = c.entry-item.result in
    let i = c.loop-entry.entry-index in
    let d = left_at es i e c.loop-entry-test.true c.entry-item.is in (
      feet ++ foot_by e m,
      c.in-Ok.ensures.kept feet keeps,
      goes_on first m feet c.loop-entry.place i es h e d c.tell_step.new.machine c.in-Ok.ensures.answer,
      tells_on c.args.p.now c.args.part first m c.args.rows.now.items c.loop-entry.rows.items c.args.steps.now.items
          c.loop-entry.steps.items c.loop-entry.number i es t e c.loop-entry-test.true c.entry-item.is h.look
          c.tell_step.new.machine c.in-Ok.ensures.answer c.tell_step.new.rows.items c.in-Ok.ensures.rows
          c.tell_step.new.steps.items c.in-Ok.ensures.told,
    )

pub returns-in-Err-clause-answer : goal.returns-in-Err-clause-answer
returns-in-Err-clause-answer g c =
    let (feet, keeps, h, t) = c.loop-entry.invariant in
    let d = left_at c.args.entries.now c.loop-entry.entry-index c.entry-item.result c.loop-entry-test.true c.entry-item.is in
    rw c.at_place.ensures
    (is_refused c.args.machine.now c.loop-entry.machine feet c.loop-entry.place c.loop-entry.entry-index c.args.entries.now
    h c.entry-item.result d c.tell_step.new.machine c.in-Err.fault c.in-Err.ensures.answer)

pub returns-clause-answer : goal.returns-clause-answer
returns-clause-answer g c =
    let (feet, keeps, h, t) = c.loop-entry.invariant in
    all_taken c.args.machine.now c.loop-entry.machine feet c.loop-entry.place c.loop-entry.entry-index c.args.entries.now h
    (drop_all c.loop-entry.entry-index c.args.entries.now c.loop-entry-test.false)

pub returns-clause-kept : goal.returns-clause-kept
returns-clause-kept g c =
    let (feet, keeps, h, t) = c.loop-entry.invariant in
    subst (g.R.Record.keeps c.loop-entry.kept)
    (all_steps c.args.machine.now c.loop-entry.machine feet c.loop-entry.place c.loop-entry.entry-index c.args.entries.now h
    (drop_all c.loop-entry.entry-index c.args.entries.now c.loop-entry-test.false)) keeps

pub returns-clause-rows : goal.returns-clause-rows
returns-clause-rows g c =
    let (feet, keeps, h, t) = c.loop-entry.invariant in
    all_rows c.args.p.now c.args.part c.args.machine.now c.loop-entry.machine c.args.rows.now.items c.loop-entry.rows.items
    c.args.steps.now.items c.loop-entry.steps.items c.loop-entry.number c.loop-entry.entry-index c.args.entries.now t
    c.loop-entry-test.false

pub returns-clause-told : goal.returns-clause-told
returns-clause-told g c =
    let (feet, keeps, h, t) = c.loop-entry.invariant in
    all_told c.args.p.now c.args.part c.args.machine.now c.loop-entry.machine c.args.rows.now.items c.loop-entry.rows.items
    c.args.steps.now.items c.loop-entry.steps.items c.loop-entry.number c.loop-entry.entry-index c.args.entries.now t
    c.loop-entry-test.false
