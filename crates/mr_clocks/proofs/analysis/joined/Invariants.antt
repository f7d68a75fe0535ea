use Rattle.mr_clocks.proofs.Common.{ℕ, ◌↔◌, IsUnder, IsNeededBy}
use Rattle.mr_clocks.proofs.analysis.joined.Given as goal

abbrev pub invariant-loop-x : goal.invariant-loop-x
invariant-loop-x l = (k : ℕ) → IsUnder l.run l.clock k ↔ IsNeededBy l.run l.steps l.x k
