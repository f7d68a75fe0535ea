use Rattle.mr_listing.proofs.Common.{◌≡◌, take, with_numbers}
use Rattle.mr_listing.proofs.sorted.with_numbers.Given as goal

-- the races before this one have their numbers
abbrev pub invariant-loop-pair : goal.invariant-loop-pair
invariant-loop-pair l = l.all.items ≡ with_numbers 0 (take l.pair-index l.races)
