use Rattle.mr_picture.proofs.Common.{◌≡◌, ◌++◌, ◌<◌, All, length, way, way_within}
use Rattle.mr_picture.proofs.way.way_to.Given as goal

-- the way goes on from here as it does, within the steps that are left
abbrev pub invariant-loop-left : goal.invariant-loop-left
invariant-loop-left l = record {
  on : l.steps.items ++ way_within l.left l.run l.at l.j ≡ way l.run l.i l.j;
  within : All (λ k. k < length l.run) l.steps.items;
  here : l.at < length l.run;
}

abbrev pub decreases-loop-left : goal.decreases-loop-left
decreases-loop-left l = l.left
