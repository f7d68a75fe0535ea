use Rattle.mr_witness.proofs.Common.{ℕ, ◌<◌, ◌≤◌, ◌≢◌, thread_at}
use Rattle.mr_witness.proofs.placing.next_of.Given as goal

abbrev pub invariant-loop-k : goal.invariant-loop-k
invariant-loop-k l = (a : ℕ) → l.from ≤ a → a < l.k → thread_at l.run a ≢ l.thread
