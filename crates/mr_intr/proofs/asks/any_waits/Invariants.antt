use Rattle.mr_intr.proofs.Common.{◌≡◌, ℕ, ◌<◌, false, length, waits}
use Rattle.mr_intr.proofs.asks.any_waits.Given as goal

-- no thread so far waits for the lock
abbrev pub invariant-loop-t : goal.invariant-loop-t
invariant-loop-t l = (l.t-end ≡ length l.sync.statuses) × ((k : ℕ) → k < l.t → waits l.lock k l.sync ≡ false)
