use Rattle.mr_run.proofs.Common.{List, Footprint}
use Rattle.mr_run.proofs.RunLaws.{IsUnderWay}
use Rattle.mr_run.proofs.running.run_entries.Given as goal

-- what is kept is that of some steps
abbrev pub invariant-loop-entry : goal.invariant-loop-entry
invariant-loop-entry g l =
    (steps : List Footprint) × g.R.Record.keeps l.kept steps × IsUnderWay l.fn.machine l.machine steps l.place l.entry-index l.entries
