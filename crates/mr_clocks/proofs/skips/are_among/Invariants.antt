use Rattle.mr_clocks.proofs.Common.{ℕ, ◌<◌, get_or, Contains, Access}
use Rattle.mr_clocks.proofs.skips.are_among.Given as goal

abbrev pub invariant-loop-i : goal.invariant-loop-i
invariant-loop-i l = (k : ℕ) (d : Access) → k < l.i → Contains l.accesses (get_or l.by k d)
