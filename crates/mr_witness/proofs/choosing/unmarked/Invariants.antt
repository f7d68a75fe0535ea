use Rattle.mr_witness.proofs.Common.{◌≡◌, map, not, ◌&&◌, false, ◌==◌, slice_index_or, filter, places, entry_at}
use Rattle.mr_witness.proofs.choosing.unmarked.Given as goal

abbrev pub invariant-loop-k : goal.invariant-loop-k
invariant-loop-k l =
    l.chosen ≡ map (entry_at l.entries) (filter (λ k. not (slice_index_or l.marked k false) && not (k == l.pair.first)) (places l.k))
