use Rattle.mr_hunt.proofs.Common.{◌≡◌, range_with_len, ends_of, table_of}
use Rattle.mr_hunt.proofs.counting.table.Given as goal

-- it is the table of the numbers before this one
abbrev pub invariant-loop-i : goal.invariant-loop-i
invariant-loop-i l = l.rows.items ≡ table_of (ends_of l.p l.most) (range_with_len l.from l.i)
