use Rattle.mr_auto.proofs.Common.{[], ◌++◌, arith, subst}
use Rattle.mr_run.specs.Runs.{foot_by}
use Rattle.mr_auto.proofs.DrawnSoFar.{none_more, none_next, so_begins, so_ends, so_feet, so_legal, so_more}
use Rattle.mr_auto.proofs.drawing.draw_entries.Goals as goal

pub loop-i-init : goal.loop-i-init
loop-i-init g c = ([], c.requires.none, so_begins _ _ _ _ c.requires.begins)

pub next_entry-requires-clause-working : goal.next_entry-requires-clause-working
next_entry-requires-clause-working g c = c.loop-i.invariant.2.begins.working

pub next_entry-requires-clause-state : goal.next_entry-requires-clause-state
next_entry-requires-clause-state g c = c.loop-i.invariant.2.begins.state

pub make_step-requires-clause-working : goal.make_step-requires-clause-working
make_step-requires-clause-working g c = c.loop-i.invariant.2.begins.working

pub make_step-requires-clause-completed : goal.make_step-requires-clause-completed
make_step-requires-clause-completed g c = omega (arith, c.loop-i.invariant.2.few, c.loop-i-test.true, c.requires.completed)

pub make_step-requires-clause-legal : goal.make_step-requires-clause-legal
make_step-requires-clause-legal g c =
    so_legal _ _ _ _ _ _ _ _ _ c.loop-i.invariant.2 c.in-Some.entry c.next_entry.new.chooser (rw c.in-Some.is at c.in_ok-entry.ensures)

pub make_step-requires-clause-room : goal.make_step-requires-clause-room
make_step-requires-clause-room g c =
    (c.loop-i.invariant.0, c.loop-i.invariant.1, omega (arith, c.loop-i.invariant.2.room, c.loop-i-test.true, c.requires.completed))

pub returns-in-None-clause-drawn : goal.returns-in-None-clause-drawn
returns-in-None-clause-drawn g c =
    let (steps, keeps, so) = c.loop-i.invariant in
    so_ends _ _ _ _ _ _ _ _ _ so (none_next _ _ _ _ _ _ _ _ _ so c.loop-i-test.true c.next_entry.new.chooser (rw c.in-None.is at c.in_ok-entry.ensures))

pub returns-in-None-clause-kept : goal.returns-in-None-clause-kept
returns-in-None-clause-kept g c =
    let (steps, keeps, so) = c.loop-i.invariant in
    subst (g.R.Record.keeps c.loop-i.kept)
    (so_feet _ _ _ _ _ _ _ _ _ so (none_next _ _ _ _ _ _ _ _ _ so c.loop-i-test.true c.next_entry.new.chooser (rw c.in-None.is at c.in_ok-entry.ensures))) keeps

pub loop-i-preserved : goal.loop-i-preserved
loop-i-preserved g c =
    let (steps, keeps, so) = c.loop-i.invariant in (
      steps ++ foot_by c.in-Some.entry c.loop-i.machine,
      c.in_ok-make_step-in-Some.ensures.kept steps keeps,
      so_more _ _ _ _ _ _ _ _ _ so c.in-Some.entry c.next_entry.new.chooser (rw c.in-Some.is at c.in_ok-entry.ensures) c.loop-i-test.true c.make_step.new.machine c.push.new.self
          c.in_ok-make_step-in-Some.ensures.made c.in_ok-push-in-Some.ensures.ok,
    )

pub returns-clause-drawn : goal.returns-clause-drawn
returns-clause-drawn g c =
    let (steps, keeps, so) = c.loop-i.invariant in
    so_ends _ _ _ _ _ _ _ _ _ so (none_more _ _ _ _ _ _ _ _ _ so (omega (arith, c.loop-i-test.false)))

pub returns-clause-kept : goal.returns-clause-kept
returns-clause-kept g c =
    let (steps, keeps, so) = c.loop-i.invariant in
    subst (g.R.Record.keeps c.loop-i.kept) (so_feet _ _ _ _ _ _ _ _ _ so (none_more _ _ _ _ _ _ _ _ _ so (omega (arith, c.loop-i-test.false)))) keeps
