use Rattle.mr_rust_order.proofs.Common.{◌+◌, ◌-◌, ◌≤◌, AreJoined}
use Rattle.mr_rust_order.proofs.LoadLaws.{IsLatestBelow}
use Rattle.mr_rust_order.proofs.loads.read_bytes.Given as goal

abbrev pub invariant-loop-byte : goal.invariant-loop-byte
invariant-loop-byte l =
    record {
      low : l.fn.access.addr ≤ l.byte;
      high : l.byte ≤ l.fn.access.addr + l.fn.access.len;
      joined : AreJoined l.rows (IsLatestBelow l.rows l.fn.access l.byte) l.initial.clock l.clock;
    }

abbrev pub decreases-loop-byte : goal.decreases-loop-byte
decreases-loop-byte l = l.end - l.byte
