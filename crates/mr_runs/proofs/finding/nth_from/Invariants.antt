use Rattle.mr_runs.proofs.Common.{◌≡◌, slice_get, begun_from}
use Rattle.mr_runs.proofs.finding.nth_from.Given as goal

abbrev pub invariant-loop-begin : goal.invariant-loop-begin
invariant-loop-begin g l = slice_get l.begin-iterator l.left ≡ slice_get (begun_from l.first l.runs.entries) l.n
