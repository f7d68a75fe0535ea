use Rattle.mr_labels.proofs.Common.{◌≡◌, drop, found_at}
use Rattle.mr_labels.proofs.lookup.found_at.Given as goal

-- none so far holds the address
abbrev pub invariant-loop-row : goal.invariant-loop-row
invariant-loop-row l = found_at l.addr l.rows ≡ found_at l.addr (drop l.row-index l.rows)
