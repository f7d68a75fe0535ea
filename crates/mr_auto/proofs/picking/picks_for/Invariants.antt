use Rattle.mr_auto.proofs.Common.{◌≡◌, drop, Some, State, Own}
use Rattle.mr_auto.proofs.PicksLeft.{PickedSo}
use Rattle.mr_auto.proofs.picking.picks_for.Given as goal

abbrev pub invariant-loop-ask : goal.invariant-loop-ask
invariant-loop-ask l =
    (s : State Own) → l.machine.config.state ≡ Some s → PickedSo s.shared.statuses l.initial.chooser l.asks l.picks l.chooser (drop l.ask-index l.asks)
