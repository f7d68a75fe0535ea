use Rattle.mr_fill.proofs.Common.{[], get_or, arith, None, Turn}
use Rattle.std.proofs.lemmas.List.{drop_all}
use Rattle.mr_fill.proofs.FilledSoFar.{so_begins, so_ends, so_halts, so_legal, so_more, turns_left}
use Rattle.mr_fill.proofs.filling.fill_entries.Goals as goal

abbrev none : Turn
none = record { thread = 0; receiver = None; line = 0 }

pub loop-turn-init : goal.loop-turn-init
loop-turn-init c = so_begins _ _ _ _ c.requires.begins

pub turn_due-requires-clause-working : goal.turn_due-requires-clause-working
turn_due-requires-clause-working c = c.loop-turn.invariant.begins.working

pub turn_due-requires-clause-state : goal.turn_due-requires-clause-state
turn_due-requires-clause-state c = c.loop-turn.invariant.begins.state

pub make_step-requires-clause-working : goal.make_step-requires-clause-working
make_step-requires-clause-working c = c.loop-turn.invariant.begins.working

pub make_step-requires-clause-completed : goal.make_step-requires-clause-completed
make_step-requires-clause-completed c = omega (arith, c.loop-turn.invariant.few, c.loop-turn-test.true, c.requires.completed)

pub make_step-requires-clause-legal : goal.make_step-requires-clause-legal
make_step-requires-clause-legal c =
    let here = turns_left c.args.turns.now c.loop-turn.turn-index none c.loop-turn-test.true in
    so_legal _ _ _ _ _ _ _ _ c.loop-turn.invariant (get_or c.args.turns.now c.loop-turn.turn-index none) here c.in-Takes.entry c.turn_due.new.chooser (rw c.in-Takes.is at c.in_ok-entry.ensures)

pub make_step-requires-clause-room : goal.make_step-requires-clause-room
make_step-requires-clause-room c = ([], tt, omega arith)

pub returns-in-Broken : goal.returns-in-Broken
returns-in-Broken c =
    let here = turns_left c.args.turns.now c.loop-turn.turn-index none c.loop-turn-test.true in
    so_halts _ _ _ _ _ _ _ _ c.loop-turn.invariant (get_or c.args.turns.now c.loop-turn.turn-index none) here c.in-Broken.code c.turn_due.new.chooser (rw c.in-Broken.is at c.in_ok-entry.ensures)

pub loop-turn-preserved : goal.loop-turn-preserved
loop-turn-preserved c =
    let here = turns_left c.args.turns.now c.loop-turn.turn-index none c.loop-turn-test.true in
    so_more _ _ _ _ _ _ _ _ c.loop-turn.invariant (get_or c.args.turns.now c.loop-turn.turn-index none) here c.in-Takes.entry c.turn_due.new.chooser (rw c.in-Takes.is at c.in_ok-entry.ensures)
    c.make_step.new.machine c.push.new.self c.in_ok-make_step-in-Takes.ensures.made c.in_ok-push-in-Takes.ensures.ok

pub returns : goal.returns
returns c = so_ends _ _ _ _ _ _ _ _ c.loop-turn.invariant (drop_all c.loop-turn.turn-index c.args.turns.now c.loop-turn-test.false)
