use Rattle.mr_auto.proofs.Common.{[], ◌∷◌, drop, Enabled, AreAddresses}
use Rattle.mr_auto.proofs.PicksLeft.{PickedSo}
use Rattle.mr_auto.proofs.picking.start_picks.Given as goal

abbrev pub invariant-loop-ask : goal.invariant-loop-ask
invariant-loop-ask l =
    record {
      so : PickedSo (Enabled ∷ []) l.initial.chooser l.asks l.picks l.chooser (drop l.ask-index l.asks);
      left : AreAddresses (drop l.ask-index l.asks);
    }
