use Rattle.mr_witness.proofs.Common.{◌≡◌, map, not, ◌&&◌, false, ◌==◌, slice_index_or, filter, places, entry_at}
use Rattle.mr_witness.proofs.shortening.chosen.Given as goal

abbrev pub invariant-loop-k : goal.invariant-loop-k
invariant-loop-k l =
    l.copies ≡ map (entry_at l.entries) (filter (λ k. slice_index_or l.marks k false && not (k == l.pair.first)) (places l.k))
