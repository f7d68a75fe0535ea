use Rattle.mr_wf.proofs.Common.{◌≡◌, drop, each_walked, walked_function}
use Rattle.mr_wf.proofs.walk.walked_functions.Given as goal

abbrev pub invariant-loop-n : goal.invariant-loop-n
invariant-loop-n l = each_walked (walked_function l.sizes) l.n (drop l.n l.functions) ≡ each_walked (walked_function l.sizes) 0 l.functions
