use Rattle.mr_clocks.proofs.Common.{take, Tracks}
use Rattle.mr_clocks.proofs.analysis.Analysis.of_run.Given as goal

abbrev pub invariant-loop-j : goal.invariant-loop-j
invariant-loop-j l = Tracks l.analysis (take l.j l.run)
