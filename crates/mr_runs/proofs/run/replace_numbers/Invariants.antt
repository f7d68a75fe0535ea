use Rattle.mr_runs.proofs.Common.{◌≡◌, take, with_range_replaced}
use Rattle.mr_runs.proofs.run.replace_numbers.Given as goal

abbrev pub invariant-loop-index : goal.invariant-loop-index
invariant-loop-index l = l.numbers ≡ with_range_replaced l.initial.numbers l.at (take l.index l.others)
