use Rattle.mr_replay.proofs.Common.{List, IsUnderWay}
use Rattle.mr_event.specs.Footprint.{Footprint}
use Rattle.mr_replay.proofs.ToldLaws.{IsPlacing}
use Rattle.mr_replay.proofs.stepping.stand_entries.Given as goal

-- what is kept is that of some steps, and where their threads stood
abbrev pub invariant-loop-entry : goal.invariant-loop-entry
invariant-loop-entry g l =
    (feet : List Footprint) × g.R.Record.keeps l.kept feet
    × IsUnderWay l.fn.machine l.machine feet l.place l.entry-index l.entries
    × IsPlacing l.fn.machine l.machine l.fn.stands.items l.stands.items l.entry-index l.entries
