use Rattle.mr_replay.proofs.Common.{List, IsUnderWay}
use Rattle.mr_event.specs.Footprint.{Footprint}
use Rattle.mr_replay.proofs.ToldLaws.{IsTelling}
use Rattle.mr_replay.proofs.telling.tell_entries.Given as goal

-- what is kept is that of some steps, and what was told is what they tell
abbrev pub invariant-loop-entry : goal.invariant-loop-entry
invariant-loop-entry g l =
    (feet : List Footprint) × g.R.Record.keeps l.kept feet
    × IsUnderWay l.fn.machine l.machine feet l.place l.entry-index l.entries
    × IsTelling l.p l.part l.fn.machine l.machine l.fn.rows.items l.rows.items l.fn.steps.items l.steps.items l.number
    l.entry-index l.entries
