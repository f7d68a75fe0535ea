use Rattle.mr_layout.proofs.Common.{◌≡◌, ◌-◌, ◌%◌, length, nat_lt, ◌&&◌, Marks, is_row_mark}
use Rattle.mr_layout.proofs.tables.mark_rows.Given as goal

abbrev pub invariant-loop-done : goal.invariant-loop-done
invariant-loop-done l =
    record {
      whole : l.done % length l.row ≡ 0;
      marks : Marks (λ at. nat_lt at l.done && is_row_mark l.row l.bytes at) l.start l.fn.table l.table;
    }

abbrev pub decreases-loop-done : goal.decreases-loop-done
decreases-loop-done l = l.bytes - l.done
