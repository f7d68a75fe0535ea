use Rattle.mr_hunt.proofs.Common.{◌≡◌, false, take, list_any, is_between}
use Rattle.mr_hunt.proofs.aims.any_between.Given as goal

-- none before this one is
abbrev pub invariant-loop-end : goal.invariant-loop-end
invariant-loop-end l = list_any (is_between l.places l.one l.other) (take l.end-index l.ends) ≡ false
