use Rattle.mr_clocks.proofs.Common.{◌≡◌, List, vec_len, vec_capacity, Row, AreMemos}
use Rattle.mr_clocks.proofs.memos.fill.Given as goal

abbrev pub invariant-loop-k : goal.invariant-loop-k
invariant-loop-k l =
    record {
      each : (rows : List Row) → AreMemos rows l.initial.memos.items → AreMemos rows l.memos.items;
      count : vec_len l.memos ≡ l.k;
      room : vec_capacity l.memos ≡ vec_capacity l.initial.memos;
    }
