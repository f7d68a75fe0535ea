use Rattle.mr_runs.proofs.Common.{◌≡◌, map, take, number_of, with_range_replaced}
use Rattle.mr_runs.proofs.run.put_numbers.Given as goal

abbrev pub invariant-loop-index : goal.invariant-loop-index
invariant-loop-index l = l.numbers ≡ with_range_replaced l.initial.numbers l.at (map number_of (take l.index l.bytes))
