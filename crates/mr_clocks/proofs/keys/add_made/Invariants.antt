use Rattle.mr_clocks.proofs.Common.{◌≡◌, ◌++◌, map, take, Made}
use Rattle.mr_clocks.proofs.keys.add_made.Given as goal

abbrev pub invariant-loop-i : goal.invariant-loop-i
invariant-loop-i l = l.keys.items ≡ l.initial.keys.items ++ map Made (take l.i l.ids)
