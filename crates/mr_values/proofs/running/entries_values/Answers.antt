use Rattle.std.proofs.Common.{◌∙◌, List, ap, arith}
use Rattle.mr_base.specs.declared.access.Access.{Access}
use Rattle.mr_step.specs.StartRuns.{program_step}
use Rattle.mr_values.specs.Values.{values_between}
use Rattle.mr_values.proofs.SoFar.{all_told, legal_here, one_more, sets_out}
use Rattle.mr_values.proofs.running.entries_values.Goals as goal

pub loop-entry-init : goal.loop-entry-init
loop-entry-init c =
    sets_out c.args.rows.now c.args.feet.now c.args.part c.args.machine.now c.args.entries.now c.new-values.result.items
    c.new-values.ensures.items c.requires.working

pub step_values-requires-clause-working : goal.step_values-requires-clause-working
step_values-requires-clause-working c = c.loop-entry.invariant.working

pub step_values-requires-clause-completed : goal.step_values-requires-clause-completed
step_values-requires-clause-completed c =
    omega (arith, c.loop-entry.invariant.completed, c.loop-entry-test.true, c.requires.completed)

pub step_values-requires-clause-legal : goal.step_values-requires-clause-legal
step_values-requires-clause-legal c =
    legal_here c.args.rows.now c.args.feet.now c.args.part c.args.machine.now c.loop-entry.machine
    c.loop-entry.values.items c.loop-entry.number c.loop-entry.entry-index c.args.entries.now c.loop-entry.invariant
    c.entry-item.result c.loop-entry-test.true c.entry-item.is c.requires.legal

pub overflow_add-number : goal.overflow_add-number
overflow_add-number c =
    omega (arith, c.loop-entry.invariant.counted, c.loop-entry-test.true, c.requires.completed)

pub loop-entry-preserved : goal.loop-entry-preserved
loop-entry-preserved c =
    let m = c.loop-entry.machine in
    let next = program_step m.look m.config c.entry-item.result in
    one_more c.args.rows.now c.args.feet.now c.args.part c.args.machine.now c.loop-entry.machine
    c.loop-entry.values.items c.loop-entry.number c.loop-entry.entry-index c.args.entries.now c.loop-entry.invariant
    c.entry-item.result c.loop-entry-test.true c.entry-item.is c.step_values.new.machine c.in_ok-held.held
    c.push.new.self.items c.in_ok-held.ensures.made
    (c.in_ok-held.ensures.values
    ∙ ap (λ (xs : List Access). values_between c.args.rows.now xs m.config next) c.accesses_at-accesses.ensures)
    c.in_ok-push.ensures.items

pub returns : goal.returns
returns c =
    all_told c.args.rows.now c.args.feet.now c.args.part c.args.machine.now c.loop-entry.machine
    c.loop-entry.values.items c.loop-entry.number c.loop-entry.entry-index c.args.entries.now c.loop-entry.invariant
    c.loop-entry-test.false
