use Rattle.mr_labels.proofs.Common.{◌≡◌, ◌++◌, map, range_with_len, function_name}
use Rattle.mr_labels.proofs.rows.push_functions.Given as goal

-- one for each turn was pushed
abbrev pub invariant-loop-i : goal.invariant-loop-i
invariant-loop-i l = l.names.items ≡ l.fn.names.items ++ map function_name (range_with_len 0 l.i)
