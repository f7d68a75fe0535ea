use Rattle.mr_witness.proofs.Common.{◌≡◌, filter, places, left_of, is_ready}
use Rattle.mr_witness.proofs.placing.ready_of.Given as goal

abbrev pub invariant-loop-thread : goal.invariant-loop-thread
invariant-loop-thread l = l.ready.items ≡ filter (is_ready l.run (left_of l.run l.fronts)) (places l.thread)
