use Rattle.std.proofs.Common.{◌≡◌, ◌<◌, ℕ, false}
use Rattle.mr_sync.specs.Tables.{waits}
use Rattle.mr_run_tests.proofs.tables.is_unawaited.Given as goal

abbrev pub invariant-loop-t : goal.invariant-loop-t
invariant-loop-t l = (k : ℕ) → k < l.t → waits l.lock k l.table ≡ false
