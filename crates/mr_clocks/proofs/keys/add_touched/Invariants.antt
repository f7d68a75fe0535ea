use Rattle.mr_clocks.proofs.Common.{◌≡◌, ◌++◌, map, take, Touched}
use Rattle.mr_clocks.proofs.keys.add_touched.Given as goal

abbrev pub invariant-loop-i : goal.invariant-loop-i
invariant-loop-i l = l.keys.items ≡ l.initial.keys.items ++ map Touched (take l.i l.ids)
