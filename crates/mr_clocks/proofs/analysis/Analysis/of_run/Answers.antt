use Rattle.mr_clocks.proofs.Common.{sym, subst, Tracks}
use Rattle.mr_clocks.proofs.Longer.{without_last}
use Rattle.mr_clocks.proofs.analysis.Analysis.of_run.Goals as goal

pub add-requires-clause-tracks : goal.add-requires-clause-tracks
add-requires-clause-tracks c =
    subst (Tracks c.loop-j.analysis) (sym (without_last c.args.run.now c.loop-j.j c.loop-j-test.true)) c.loop-j.invariant
