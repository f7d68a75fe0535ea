use Rattle.mr_sched.proofs.Common.{◌≡◌, ◌++◌, ◌≤◌, drop, Extends, groups_behind, groups_of, groups_text}
use Rattle.mr_sched.proofs.printing.print_groups.Given as goal

-- what was written, and the lines of the entries from this one on, are all lines
abbrev pub invariant-loop-at : goal.invariant-loop-at
invariant-loop-at l =
    (l.out.items ++ groups_text (groups_behind l.v l.count (drop l.at l.entries)) ≡ l.fn.out.items ++ groups_text (groups_of l.v l.fn.entries))
    × (l.count ≤ l.at) × Extends l.fn.out.items l.out.items
