use Rattle.mr_fill.proofs.Common.{◌≡◌, drop, Some, State, Own}
use Rattle.mr_fill.proofs.GivenLeft.{GivenSo}
use Rattle.mr_fill.proofs.picking.picks_for.Given as goal

abbrev pub invariant-loop-ask : goal.invariant-loop-ask
invariant-loop-ask l =
    (s : State Own) → l.machine.config.state ≡ Some s
    → GivenSo s.shared.statuses l.receiver l.initial.chooser l.asks l.picks l.chooser (drop l.ask-index l.asks)
