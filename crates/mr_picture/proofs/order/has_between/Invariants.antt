use Rattle.mr_picture.proofs.Common.{◌≡◌, ◌+◌, ◌-◌, ◌≤◌, false, list_any, range_with_len, lies_between}
use Rattle.mr_picture.proofs.order.has_between.Given as goal

-- none of the steps before this one lies between
abbrev pub invariant-loop-k : goal.invariant-loop-k
invariant-loop-k l = record {
  from : l.i + 1 ≤ l.k;
  none : list_any (lies_between l.run l.i l.j) (range_with_len (l.i + 1) (l.k - (l.i + 1))) ≡ false;
}
