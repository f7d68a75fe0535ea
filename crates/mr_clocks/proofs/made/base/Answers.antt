use Rattle.mr_clocks.proofs.Common.{◌-◌, sym, ◌∙◌, ap, arith, slice_index}
use Rattle.mr_clocks.proofs.Parts.{latest_step, part_of_first, part_of_latest}
use Rattle.mr_clocks.proofs.made.base.Goals as goal

pub lent-requires-clause-step : goal.lent-requires-clause-step
lent-requires-clause-step c =
    let step = latest_step c.args.run.now c.args.j c.args.latest.now c.thread_at.result c.at-next.result c.requires.latest c.at-next.ensures c.if-next-eq0.false in
    omega (arith, step.0, c.requires.clocks.all)

pub lent-requires-clause-within : goal.lent-requires-clause-within
lent-requires-clause-within c =
    let step = latest_step c.args.run.now c.args.j c.args.latest.now c.thread_at.result c.at-next.result c.requires.latest c.at-next.ensures c.if-next-eq0.false in
    c.requires.clocks.within (c.at-next.result - 1) step.0

pub returns-clause-part : goal.returns-clause-part
returns-clause-part c =
    part_of_latest c.args.run.now c.args.j c.args.clocks.now c.args.numbers.now c.args.latest.now c.in_ok-clock.clock c.at-next.result
    c.requires.clocks c.requires.latest (c.at-next.ensures ∙ ap (slice_index c.args.latest.now) c.thread_at.ensures) c.if-next-eq0.false (c.in_ok-clock.ensures ∙ c.lent.ensures)

pub returns-then-next-eq0-clause-part : goal.returns-then-next-eq0-clause-part
returns-then-next-eq0-clause-part c =
    part_of_first c.args.run.now c.args.j c.args.latest.now c.new.result c.requires.latest
    (sym (c.at-next.ensures ∙ ap (slice_index c.args.latest.now) c.thread_at.ensures) ∙ c.if-next-eq0.true) c.new.ensures
