use Rattle.mr_wf.proofs.Common.{◌≡◌, drop, surroundings_of, each_walked, walked_block}
use Rattle.mr_wf.proofs.walk.walked_blocks.Given as goal

abbrev pub invariant-loop-k : goal.invariant-loop-k
invariant-loop-k l = each_walked (walked_block l.inside.n l.inside.function.now (surroundings_of l.inside.at)) l.k (drop l.k l.blocks) ≡ each_walked (walked_block l.inside.n l.inside.function.now (surroundings_of l.inside.at)) 0 l.blocks
