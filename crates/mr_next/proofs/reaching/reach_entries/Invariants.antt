use Rattle.mr_next.proofs.ReachedLaws.{IsOnItsWay}
use Rattle.mr_next.proofs.reaching.reach_entries.Given as goal

abbrev pub invariant-loop-entry : goal.invariant-loop-entry
invariant-loop-entry l = IsOnItsWay l.fn.machine l.machine l.place l.entry-index l.entries
