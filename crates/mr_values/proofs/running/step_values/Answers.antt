use Rattle.std.proofs.Common.{◌∙◌, List, [], ap, arith, map}
use Rattle.mr_listing.specs.declared.held.Held.{Held}
use Rattle.mr_step.specs.Standing.{Standing}
use Rattle.mr_values.specs.Values.{held_at}
use Rattle.mr_values.proofs.running.step_values.Goals as goal

pub make_step-requires-clause-room : goal.make_step-requires-clause-room
make_step-requires-clause-room c = ([], tt, omega arith)

pub returns-clause-values : goal.returns-clause-values
returns-clause-values c =
    let held : Standing → List Held = λ s. map (held_at c.args.rows.now s.config) c.args.accesses.now in
    let behind = c.in_ok-behind.ensures ∙ ap held c.in_ok-make_step.ensures.made.after in
    (λ i. record { before = c.in_ok-before.ensures i; behind = behind i })
