use Rattle.mr_values.proofs.SoFar.{IsSoFar}
use Rattle.mr_values.proofs.running.entries_values.Given as goal

-- the entries before this one were taken, and the values of their steps are told
abbrev pub invariant-loop-entry : goal.invariant-loop-entry
invariant-loop-entry l =
    IsSoFar l.rows l.feet l.part l.fn.machine l.machine l.values.items l.number l.entry-index l.entries
