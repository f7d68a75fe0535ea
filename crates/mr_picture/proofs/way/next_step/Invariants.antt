use Rattle.mr_picture.proofs.Common.{◌≡◌, ◌≤◌, greatest_below, leads, next_step}
use Rattle.mr_picture.proofs.way.next_step.Given as goal

-- no step from this one on leads on
abbrev pub invariant-loop-left : goal.invariant-loop-left
invariant-loop-left l = record {
  rest : greatest_below (leads l.run l.i l.j) l.left ≡ next_step l.run l.i l.j;
  low : l.left ≤ l.j;
}

abbrev pub decreases-loop-left : goal.decreases-loop-left
decreases-loop-left l = l.left
