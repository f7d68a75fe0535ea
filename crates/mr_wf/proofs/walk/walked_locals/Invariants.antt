use Rattle.mr_wf.proofs.Common.{◌≡◌, drop, each_walked, walked_local}
use Rattle.mr_wf.proofs.walk.walked_locals.Given as goal

abbrev pub invariant-loop-place : goal.invariant-loop-place
invariant-loop-place l = each_walked (walked_local l.n) l.place (drop l.place l.locals) ≡ each_walked (walked_local l.n) 0 l.locals
