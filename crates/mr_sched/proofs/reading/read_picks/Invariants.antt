use Rattle.mr_sched.proofs.Common.{◌≡◌, option_copied, parts_after, picks_of}
use Rattle.mr_sched.proofs.Loops.{size_of, picks_with}
use Rattle.mr_sched.proofs.reading.read_picks.Given as goal

abbrev pub invariant-loop-rest : goal.invariant-loop-rest
invariant-loop-rest l = picks_with l.picks (parts_after 32 (option_copied l.rest)) ≡ picks_of (parts_after 32 (option_copied l.words))

abbrev pub decreases-loop-rest : goal.decreases-loop-rest
decreases-loop-rest l = size_of (option_copied l.rest)
