use Rattle.mr_clocks.proofs.Common.{◌-◌, arith}
use Rattle.mr_clocks.proofs.Parts.{latest_step}
use Rattle.mr_clocks.proofs.hints.is_known_before.Goals as goal

pub lent-requires-clause-step : goal.lent-requires-clause-step
lent-requires-clause-step c =
    let step = latest_step c.args.run.now c.args.j c.args.latest.now c.thread_at.result c.at-next.result c.requires.latest c.at-next.ensures c.if-next-eq0.false in
    omega (arith, step.0, c.requires.clocks.all)

pub lent-requires-clause-within : goal.lent-requires-clause-within
lent-requires-clause-within c =
    let step = latest_step c.args.run.now c.args.j c.args.latest.now c.thread_at.result c.at-next.result c.requires.latest c.at-next.ensures c.if-next-eq0.false in
    c.requires.clocks.within (c.at-next.result - 1) step.0
