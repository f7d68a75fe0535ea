use Rattle.mr_listing.proofs.Common.{◌≡◌, take, freed_pairs}
use Rattle.mr_listing.proofs.leaks.freed_pairs.Given as goal

-- what the steps before this one freed was added
abbrev pub invariant-loop-foot : goal.invariant-loop-foot
invariant-loop-foot l = l.pairs.items ≡ freed_pairs (take l.foot-index l.feet)
