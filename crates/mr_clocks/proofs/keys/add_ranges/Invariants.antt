use Rattle.mr_clocks.proofs.Common.{◌≡◌, ◌++◌, map, take, Range}
use Rattle.mr_clocks.proofs.keys.add_ranges.Given as goal

abbrev pub invariant-loop-i : goal.invariant-loop-i
invariant-loop-i l = l.keys.items ≡ l.initial.keys.items ++ map Range (take l.i l.accesses)
