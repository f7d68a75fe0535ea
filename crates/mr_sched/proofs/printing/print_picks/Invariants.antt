use Rattle.mr_sched.proofs.Common.{◌≡◌, ◌++◌, take, spaced}
use Rattle.mr_sched.proofs.printing.print_picks.Given as goal

abbrev pub invariant-loop-pick : goal.invariant-loop-pick
invariant-loop-pick l = l.out.items ≡ l.fn.out.items ++ spaced (take l.pick-index l.picks)
