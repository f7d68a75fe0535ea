use Rattle.mr_runs.proofs.Common.{IsSettled}
use Rattle.std.proofs.Common.{vec_len}
use Rattle.mr_runs.proofs.exchange.settle.Given as goal

abbrev pub invariant-loop-at : goal.invariant-loop-at
invariant-loop-at g l = IsSettled l.initial.rest.items l.rest.items l.initial.runs.entries l.runs.entries l.last l.end

abbrev pub decreases-loop-at : goal.decreases-loop-at
decreases-loop-at g l = vec_len l.rest
