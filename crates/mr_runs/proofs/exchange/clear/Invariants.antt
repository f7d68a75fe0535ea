use Rattle.mr_runs.proofs.Common.{◌≡◌, ℕ, ◌<◌, ◌≤◌, found}
use Rattle.std.proofs.Common.{btree_map_len}
use Rattle.mr_runs.proofs.exchange.clear.Given as goal

abbrev pub invariant-loop-at : goal.invariant-loop-at
invariant-loop-at g l = ((q : ℕ) → q < l.from → found q l.runs.entries ≡ found q l.initial.runs.entries) × ((q : ℕ) → l.to ≤ q → found q l.runs.entries ≡ found q l.initial.runs.entries)

abbrev pub decreases-loop-at : goal.decreases-loop-at
decreases-loop-at g l = btree_map_len l.runs
