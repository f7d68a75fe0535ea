use Rattle.mr_auto.proofs.Common.{List}
use Rattle.mr_run.specs.EventFootprint.{Footprint}
use Rattle.mr_auto.proofs.DrawnSoFar.{DrawnSo}
use Rattle.mr_auto.proofs.drawing.draw_entries.Given as goal

-- what is kept is that of some steps
abbrev pub invariant-loop-i : goal.invariant-loop-i
invariant-loop-i g l =
    (steps : List Footprint) × g.R.Record.keeps l.kept steps
    × DrawnSo l.most l.i l.initial.machine l.initial.chooser l.machine l.chooser l.initial.entries l.entries steps
