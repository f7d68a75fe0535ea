use Rattle.mr_clocks.proofs.Common.{refl, subst, sym, arith, thread_at, Follows, IsClockOf}
use Rattle.mr_clocks.proofs.Parts.{part_follows, under_old, under_own}
use Rattle.mr_clocks.proofs.following.follow_edge.Goals as goal

pub lent-requires-clause-step : goal.lent-requires-clause-step
lent-requires-clause-step c = omega (arith, c.requires.order, c.requires.clocks.all)

pub lent-requires-clause-within : goal.lent-requires-clause-within
lent-requires-clause-within c = c.requires.clocks.within c.args.i c.requires.order

pub returns-clause-part : goal.returns-clause-part
returns-clause-part c =
    let run = c.args.run.now in
    let i = c.args.i in
    let other : IsClockOf run c.lent.result.now i = subst (λ l. IsClockOf run l i) (sym c.lent.ensures) (c.requires.clocks.each i c.requires.order) in
    let follows : Follows c.args.clock.now c.lent.result.now (thread_at run i) i c.follow.new.self =
    subst (λ t. Follows c.args.clock.now c.lent.result.now t i c.follow.new.self) c.thread_at.ensures c.in_ok-follow.ensures in
    part_follows run c.args.clock.now c.lent.result.now c.follow.new.self i c.args.j other c.requires.part c.requires.edge follows

pub returns-clause-under : goal.returns-clause-under
returns-clause-under c =
    let run = c.args.run.now in
    let i = c.args.i in
    let follows : Follows c.args.clock.now c.lent.result.now (thread_at run i) i c.follow.new.self =
    subst (λ t. Follows c.args.clock.now c.lent.result.now t i c.follow.new.self) c.thread_at.ensures c.in_ok-follow.ensures in
    under_own run c.args.clock.now c.lent.result.now c.follow.new.self i i follows refl (omega arith)

pub returns-clause-kept : goal.returns-clause-kept
returns-clause-kept c = λ m under.
    let run = c.args.run.now in
    let i = c.args.i in
    let follows : Follows c.args.clock.now c.lent.result.now (thread_at run i) i c.follow.new.self =
    subst (λ t. Follows c.args.clock.now c.lent.result.now t i c.follow.new.self) c.thread_at.ensures c.in_ok-follow.ensures in
    under_old run c.args.clock.now c.lent.result.now c.follow.new.self i m follows under
