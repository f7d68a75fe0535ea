use Rattle.mr_sched.proofs.Common.{◌≡◌, ◌≤◌, line_in}
use Rattle.mr_sched.proofs.version.line_of.Given as goal

-- the line of the entry at this place
abbrev pub invariant-loop-at : goal.invariant-loop-at
invariant-loop-at l = (l.line ≡ line_in l.v l.entries l.at) × (l.at ≤ l.entry)
