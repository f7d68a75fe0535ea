use Rattle.mr_labels.proofs.Common.{◌≡◌, ◌++◌, map, range_with_len, start_id}
use Rattle.mr_labels.proofs.rows.push_ids.Given as goal

-- one for each turn was pushed
abbrev pub invariant-loop-i : goal.invariant-loop-i
invariant-loop-i l = l.ids.items ≡ l.fn.ids.items ++ map start_id (range_with_len 0 l.i)
