use Rattle.mr_next.proofs.Common.{◌≡◌, map, range_with_len, Some, State, Own, prospect_in}
use Rattle.mr_next.proofs.prospecting.first_prospects.Given as goal

abbrev pub invariant-loop-thread : goal.invariant-loop-thread
invariant-loop-thread l =
    (s : State Own) → l.machine.config.state ≡ Some s
    → l.prospects.items ≡ map (prospect_in l.machine.look s) (range_with_len 0 l.thread)
