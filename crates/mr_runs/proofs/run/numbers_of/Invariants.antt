use Rattle.mr_runs.proofs.Common.{◌≡◌, map, take, number_of}
use Rattle.mr_runs.proofs.run.numbers_of.Given as goal

abbrev pub invariant-loop-byte : goal.invariant-loop-byte
invariant-loop-byte l = l.numbers.items ≡ map number_of (take l.byte-index l.bytes)
