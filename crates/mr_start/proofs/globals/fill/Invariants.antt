use Rattle.mr_start.proofs.Common.{◌≡◌, drop, filled}
use Rattle.mr_start.proofs.globals.fill.Given as goal

abbrev pub invariant-loop-i : goal.invariant-loop-i
invariant-loop-i l = filled l.functions l.places l.fn.memory l.globals l.places ≡ filled l.functions l.places l.memory (drop l.i l.globals) (drop l.i l.places)
