use Rattle.mr_picture.proofs.Common.{◌≡◌, ◌+◌, ◌-◌, ◌≤◌, ◌==◌, false, list_any, range_with_len, thread_at}
use Rattle.mr_picture.proofs.way.is_first_behind.Given as goal

-- none of the steps before this one is of the thread
abbrev pub invariant-loop-k : goal.invariant-loop-k
invariant-loop-k l = record {
  from : l.i + 1 ≤ l.k;
  none :
      list_any (λ k. thread_at l.run k == thread_at l.run l.j) (range_with_len (l.i + 1) (l.k - (l.i + 1))) ≡ false;
}
