use Rattle.mr_runs.proofs.Common.{◌≡◌, take, bytes_of_pieces}
use Rattle.mr_runs.proofs.runs.Runs.copy_out.Given as goal

abbrev pub invariant-loop-at : goal.invariant-loop-at
invariant-loop-at l = l.bytes.items ≡ take l.at (bytes_of_pieces l.view)
