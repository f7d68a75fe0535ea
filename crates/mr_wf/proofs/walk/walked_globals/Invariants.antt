use Rattle.mr_wf.proofs.Common.{◌≡◌, drop, each_walked, walked_global}
use Rattle.mr_wf.proofs.walk.walked_globals.Given as goal

abbrev pub invariant-loop-n : goal.invariant-loop-n
invariant-loop-n l = each_walked (walked_global l.sizes) l.n (drop l.n l.globals) ≡ each_walked (walked_global l.sizes) 0 l.globals
