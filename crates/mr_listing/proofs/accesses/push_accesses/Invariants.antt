use Rattle.mr_listing.proofs.Common.{◌≡◌, ◌++◌, flat_map, option_copied, range_with_len, line_at, seen}
use Rattle.mr_listing.proofs.accesses.push_accesses.Given as goal

-- the accesses before this one have their lines
abbrev pub invariant-loop-at : goal.invariant-loop-at
invariant-loop-at l =
    l.out.items
    ≡ l.fn.out.items
    ++ flat_map (line_at (seen l.shown) l.here (option_copied l.values) l.accesses) (range_with_len 0 l.at)
