use Rattle.mr_listing.proofs.Common.{◌≡◌, ◌++◌, flat_map, range_with_len, seen}
use Rattle.mr_listing.specs.Rests.{numbered_rest}
use Rattle.mr_listing.proofs.rests.push_each_rest.Given as goal

-- the threads before this one have their lines
abbrev pub invariant-loop-thread : goal.invariant-loop-thread
invariant-loop-thread l =
    l.out.items ≡ l.fn.out.items ++ flat_map (numbered_rest (seen l.shown)) (range_with_len 0 l.thread)
