use Rattle.mr_layout.proofs.Common.{◌≡◌, ◌≤◌, is_some_mark}
use Rattle.mr_layout.proofs.tables.is_some_mark.Given as goal

abbrev pub invariant-loop-i : goal.invariant-loop-i
invariant-loop-i l = (l.i ≤ l.len) × (is_some_mark l.table l.start l.len ≡ is_some_mark l.table l.start l.i)

abbrev pub decreases-loop-i : goal.decreases-loop-i
decreases-loop-i l = l.i
