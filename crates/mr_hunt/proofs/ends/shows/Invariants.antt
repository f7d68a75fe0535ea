use Rattle.mr_hunt.proofs.Common.{◌≡◌, false, take, list_any, same_end}
use Rattle.mr_hunt.proofs.ends.shows.Given as goal

-- none before this one is of its kind
abbrev pub invariant-loop-other : goal.invariant-loop-other
invariant-loop-other l = list_any (same_end l.end) (take l.other-index l.ends) ≡ false
