use Rattle.mr_hunt.proofs.Common.{◌≡◌, false, take, is_listed}
use Rattle.mr_hunt.proofs.counting.is_listed.Given as goal

-- none before this one is of its kind
abbrev pub invariant-loop-row : goal.invariant-loop-row
invariant-loop-row l = is_listed (take l.row-index l.rows) l.end ≡ false
