use Rattle.mr_sched.proofs.Common.{◌≡◌, ◌++◌, ◌≤◌, replicate}
use Rattle.mr_sched.proofs.reading.push_group.Given as goal

abbrev pub invariant-loop-left : goal.invariant-loop-left
invariant-loop-left l = record {
  so_far : l.entries ++ replicate l.left l.group.entry ≡ l.fn.entries ++ replicate l.group.count l.group.entry;
  some : 1 ≤ l.left;
  few : l.left ≤ l.group.count;
}

abbrev pub decreases-loop-left : goal.decreases-loop-left
decreases-loop-left l = l.left
