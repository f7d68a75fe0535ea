use Rattle.mr_wf.proofs.Common.{◌≡◌, drop, surroundings_of, each_walked, walked_stmt}
use Rattle.mr_wf.proofs.walk.walked_stmts.Given as goal

abbrev pub invariant-loop-place : goal.invariant-loop-place
invariant-loop-place l = each_walked (walked_stmt l.inside.n l.inside.function.now (surroundings_of l.inside.at) l.k) l.place (drop l.place l.stmts) ≡ each_walked (walked_stmt l.inside.n l.inside.function.now (surroundings_of l.inside.at) l.k) 0 l.stmts
