use Rattle.mr_witness.proofs.Common.{◌≡◌, map, take, entry_at}
use Rattle.mr_witness.proofs.shuffling.entries_at.Given as goal

abbrev pub invariant-loop-k : goal.invariant-loop-k
invariant-loop-k l = l.copies ≡ map (entry_at l.entries) (take l.k-index l.order)
