use Rattle.mr_replay.proofs.Common.{◌≡◌, map, range_with_len, rest_of}
use Rattle.mr_replay.proofs.resting.first_rests.Given as goal

-- the threads before this one were told
abbrev pub invariant-loop-thread : goal.invariant-loop-thread
invariant-loop-thread l = l.rests.items ≡ map (rest_of l.machine.config) (range_with_len 0 l.thread)
