use Rattle.mr_runs.proofs.Common.{◌-◌}
use Rattle.mr_runs.proofs.StampLaws.{IsCopied}
use Rattle.mr_runs.proofs.kept.apart_of.Given as goal

abbrev pub invariant-loop-at : goal.invariant-loop-at
invariant-loop-at l = IsCopied l.runs.entries l.marks.entries l.numbers.items l.len l.at

abbrev pub decreases-loop-at : goal.decreases-loop-at
decreases-loop-at l = l.len - l.at
