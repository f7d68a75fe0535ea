use Rattle.mr_clocks.proofs.Common.{ℕ, ◌<◌, HappensBefore, thread_at, front_of}
use Rattle.mr_clocks.proofs.whole.is_ready_plain.Given as goal

abbrev pub invariant-loop-a : goal.invariant-loop-a
invariant-loop-a l = (b : ℕ) → b < l.a → HappensBefore l.run b l.k → b < front_of l.run l.fronts (thread_at l.run b)
