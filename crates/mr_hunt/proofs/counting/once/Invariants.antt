use Rattle.mr_hunt.proofs.Common.{◌≡◌, take, once}
use Rattle.mr_hunt.proofs.counting.once.Given as goal

-- of the ends before this one each kind stands there once
abbrev pub invariant-loop-end : goal.invariant-loop-end
invariant-loop-end l = l.found.items ≡ once (take l.end-index l.ends)
