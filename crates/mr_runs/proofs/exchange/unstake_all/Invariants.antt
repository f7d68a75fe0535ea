use Rattle.mr_runs.proofs.Common.{◌≡◌, ℕ, cond, take, begins, unstaked, found}
use Rattle.mr_runs.proofs.exchange.unstake_all.Given as goal

abbrev pub invariant-loop-at : goal.invariant-loop-at
invariant-loop-at g l = (q : ℕ) → found q l.runs.entries ≡ cond (begins q (take l.at-index l.row)) (unstaked (found q l.initial.runs.entries)) (found q l.initial.runs.entries)
