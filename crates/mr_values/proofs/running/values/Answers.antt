use Rattle.std.proofs.Common.{◌≡◌, ◌∙◌, List, ap, arith, length, subst}
use Rattle.std.specs.Prelude.{IfOk}
use Rattle.mr_listing.specs.declared.held.StepValues.{StepValues}
use Rattle.mr_run.proofs.RunLaws.{begins}
use Rattle.mr_step.specs.StartStart.{start_fault}
use Rattle.mr_step.specs.Standing.{Standing}
use Rattle.mr_values.proofs.SoFar.{legal_from, values_are}
use Rattle.mr_values.proofs.running.values.Goals as goal

pub begun-requires : goal.begun-requires
begun-requires c = ap (start_fault c.args.p.now) c.as_slice.ensures ∙ c.requires.legal.start

pub entries_values-requires-clause-working : goal.entries_values-requires-clause-working
entries_values-requires-clause-working c = ap (λ (s : Standing). s.failed) c.in_ok-machine.ensures

pub entries_values-requires-clause-completed : goal.entries_values-requires-clause-completed
entries_values-requires-clause-completed c =
    let legal = ap (start_fault c.args.p.now) c.as_slice.ensures ∙ c.requires.legal.start in
    let none = (begins c.args.p.now c.as_slice.result.now c.in_ok-machine.machine (legal, c.in_ok-machine.ensures)).1 in
    let same = ap length c.as_slice-2.ensures in
    let few = c.requires.few in
    omega arith

pub entries_values-requires-clause-legal : goal.entries_values-requires-clause-legal
entries_values-requires-clause-legal c =
    legal_from c.args.rows.now c.args.feet.now c.args.part c.args.p.now c.args.w.now c.as_slice.result.now
    c.as_slice-2.result.now c.in_ok-machine.machine c.as_slice.ensures c.as_slice-2.ensures c.in_ok-machine.ensures
    c.requires.legal

pub returns : goal.returns
returns c =
    subst (λ (vs : List StepValues). IfOk c.entries_values.result (λ values. values.items ≡ vs))
    (values_are c.args.rows.now c.args.feet.now c.args.part c.args.p.now c.args.w.now c.as_slice.result.now
    c.as_slice-2.result.now c.in_ok-machine.machine c.as_slice.ensures c.as_slice-2.ensures c.in_ok-machine.ensures)
    c.entries_values.ensures
