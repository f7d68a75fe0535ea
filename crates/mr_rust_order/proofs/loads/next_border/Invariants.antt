use Rattle.mr_rust_order.proofs.Common.{◌≡◌, ℕ, ◌<◌, ◌≤◌, length, has_byte, row_at}
use Rattle.mr_rust_order.proofs.TopLaws.{IsAmong}
use Rattle.mr_rust_order.proofs.loads.next_border.Given as goal

abbrev pub invariant-loop-z : goal.invariant-loop-z
invariant-loop-z l =
    record {
      above : l.byte < l.next;
      below : l.next ≤ l.end;
      same :
          (b x : ℕ) → x < length l.rows → IsAmong l.found l.z x → l.byte ≤ b → b < l.next
          → has_byte (row_at l.rows x).range b ≡ has_byte (row_at l.rows x).range l.byte;
    }
