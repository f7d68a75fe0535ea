use Rattle.mr_listing.proofs.Common.{◌≡◌, ◌++◌, flat_map, take, print_line}
use Rattle.mr_listing.proofs.listing.push_prints.Given as goal

-- the prints before this one have their lines
abbrev pub invariant-loop-line : goal.invariant-loop-line
invariant-loop-line l = l.out.items ≡ l.fn.out.items ++ flat_map print_line (take l.line-index l.lines)
