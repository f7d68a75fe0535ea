use Rattle.mr_fill.proofs.Common.{drop, get_or, subst, ◌+◌}
use Rattle.mr_sched.specs.declared.schedule.Ask.TheVariants.{Address}
use Rattle.mr_auto.proofs.PicksLeft.{left_here}
use Rattle.mr_fill.proofs.GivenLeft.{GivenSo, given_more, given_none}
use Rattle.mr_fill.proofs.picking.picks_for.Goals as goal

pub returns-in-None : goal.returns-in-None
returns-in-None c = λ s here.
    let asks = c.args.asks.now in
    let i = c.loop-ask.ask-index in
    let so = subst (GivenSo s.shared.statuses c.args.receiver c.args.chooser.now asks c.loop-ask.picks c.loop-ask.chooser) (left_here asks i (Address 0 0) c.loop-ask-test.true) (c.loop-ask.invariant s here) in
    given_none s.shared.statuses c.args.receiver c.args.chooser.now asks c.loop-ask.picks c.loop-ask.chooser c.pick_for.new.chooser (get_or asks i (Address 0 0)) (drop (i + 1) asks) so
    (rw c.in-None.is at (c.in_ok-pick.ensures s here))

pub loop-ask-preserved : goal.loop-ask-preserved
loop-ask-preserved c = λ s here.
    let asks = c.args.asks.now in
    let i = c.loop-ask.ask-index in
    let so = subst (GivenSo s.shared.statuses c.args.receiver c.args.chooser.now asks c.loop-ask.picks c.loop-ask.chooser) (left_here asks i (Address 0 0) c.loop-ask-test.true) (c.loop-ask.invariant s here) in
    rw c.in_ok-push-in-Some.ensures.ok
    (given_more s.shared.statuses c.args.receiver c.args.chooser.now asks c.loop-ask.picks c.loop-ask.chooser c.pick_for.new.chooser (get_or asks i (Address 0 0)) (drop (i + 1) asks) c.in-Some.pick so
    (rw c.in-Some.is at (c.in_ok-pick.ensures s here)))
