use Rattle.mr_listing.proofs.Common.{◌≡◌, ◌++◌, flat_map, take, seen}
use Rattle.mr_listing.specs.Leaks.{leak_line}
use Rattle.mr_listing.proofs.leaks.push_each_leak.Given as goal

-- the allocations before this one were looked at
abbrev pub invariant-loop-row : goal.invariant-loop-row
invariant-loop-row l =
    l.out.items ≡ l.fn.out.items ++ flat_map (leak_line (seen l.shown)) (take l.row-index l.rows)
