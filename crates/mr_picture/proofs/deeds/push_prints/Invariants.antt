use Rattle.mr_picture.proofs.Common.{◌≡◌, ◌++◌, flat_map, take}
use Rattle.mr_picture.specs.Deeds.{print_deed}
use Rattle.mr_picture.proofs.deeds.push_prints.Given as goal

-- the prints before this one are told
abbrev pub invariant-loop-line : goal.invariant-loop-line
invariant-loop-line l = l.out.items ≡ l.fn.out.items ++ flat_map print_deed (take l.line-index l.lines)
