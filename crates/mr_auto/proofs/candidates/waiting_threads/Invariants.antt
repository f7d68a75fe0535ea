use Rattle.mr_auto.proofs.Common.{◌≡◌, filter, range_with_len, Some, slice_get, on_lock, State, Own}
use Rattle.mr_auto.proofs.candidates.waiting_threads.Given as goal

abbrev pub invariant-loop-t : goal.invariant-loop-t
invariant-loop-t l =
    (s : State Own) → l.machine.config.state ≡ Some s → l.threads.items ≡ filter (λ t. on_lock l.lock (slice_get s.shared.statuses t)) (range_with_len 0 l.t)
