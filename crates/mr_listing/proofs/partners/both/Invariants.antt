use Rattle.mr_listing.proofs.Common.{◌≡◌, flat_map, take}
use Rattle.mr_listing.specs.Partners.{both_of}
use Rattle.mr_listing.proofs.partners.both.Given as goal

-- the races before this one were added
abbrev pub invariant-loop-pair : goal.invariant-loop-pair
invariant-loop-pair l = l.all.items ≡ flat_map both_of (take l.pair-index l.races)
