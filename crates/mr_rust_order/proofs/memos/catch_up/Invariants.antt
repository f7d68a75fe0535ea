use Rattle.mr_rust_order.proofs.Common.{◌≡◌, IsMemo}
use Rattle.mr_rust_order.proofs.memos.catch_up.Given as goal

-- the memo counts the rows before this one
abbrev pub invariant-loop-k : goal.invariant-loop-k
invariant-loop-k l =
    record {
      memo : IsMemo l.rows l.memo;
      access : l.memo.access ≡ l.initial.memo.access;
      count : l.memo.count ≡ l.k;
    }
