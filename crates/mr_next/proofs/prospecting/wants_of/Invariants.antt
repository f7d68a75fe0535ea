use Rattle.mr_next.proofs.Common.{◌≡◌, map, take, Some, State, Own, want_of}
use Rattle.mr_next.proofs.prospecting.wants_of.Given as goal

abbrev pub invariant-loop-ask : goal.invariant-loop-ask
invariant-loop-ask l =
    (s : State Own) → l.machine.config.state ≡ Some s
    → l.wants ≡ map (want_of s.shared.statuses) (take l.ask-index l.asks)
