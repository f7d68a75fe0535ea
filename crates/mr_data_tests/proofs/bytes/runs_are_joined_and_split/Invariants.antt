use Rattle.std.proofs.Common.{◌≡◌, length}
use Rattle.mr_data_tests.proofs.bytes.runs_are_joined_and_split.Given as goal

abbrev pub invariant-loop-change : goal.invariant-loop-change
invariant-loop-change g l = length l.runs ≡ 8
