use Rattle.mr_labels.proofs.Common.{◌≡◌, drop}
use Rattle.mr_labels.specs.Table.{named}
use Rattle.mr_labels.proofs.lookup.named.Given as goal

-- none so far has the identity
abbrev pub invariant-loop-row : goal.invariant-loop-row
invariant-loop-row l = named l.id l.rows ≡ named l.id (drop l.row-index l.rows)
