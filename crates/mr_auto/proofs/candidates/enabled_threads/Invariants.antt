use Rattle.mr_auto.proofs.Common.{◌≡◌, filter, range_with_len, Some, slice_get, is_enabled, State, Own}
use Rattle.mr_auto.proofs.candidates.enabled_threads.Given as goal

abbrev pub invariant-loop-t : goal.invariant-loop-t
invariant-loop-t l =
    (s : State Own) → l.machine.config.state ≡ Some s → l.threads.items ≡ filter (λ t. is_enabled (slice_get s.shared.statuses t)) (range_with_len 0 l.t)
