use Rattle.mr_labels.proofs.Common.{◌≡◌, drop, is_apart}
use Rattle.mr_labels.proofs.index.are_apart.Given as goal

-- those before this one are apart
abbrev pub invariant-loop-row : goal.invariant-loop-row
invariant-loop-row l = is_apart 0 l.rows ≡ is_apart l.low (drop l.row-index l.rows)
