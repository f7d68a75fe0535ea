use Rattle.mr_start.proofs.Common.{◌≡◌, ◌+◌, ◌≤◌, drop, first_overlapped, picked}
use Rattle.mr_start.proofs.judging.first_shared.Given as goal

-- none of the picks so far is overlapped
abbrev pub invariant-loop-i : goal.invariant-loop-i
invariant-loop-i l = record {
  few : l.next ≤ l.count + l.i;
  left : first_overlapped l.addr l.size (picked l.thread l.count l.asks l.picks) ≡ first_overlapped l.addr l.size (picked l.thread l.next (drop l.i l.asks) (drop l.i l.picks));
}
