use Rattle.mr_listing.proofs.Common.{◌≡◌, flat_map, range_with_len, numbered_group, seen}
use Rattle.mr_listing.proofs.pairs.groups_in.Given as goal

-- the races before this one were grouped
abbrev pub invariant-loop-number : goal.invariant-loop-number
invariant-loop-number l = l.found.items ≡ flat_map (numbered_group (seen l.shown)) (range_with_len 0 l.number)
