use Rattle.mr_fill.proofs.FilledSoFar.{FilledSo}
use Rattle.mr_fill.proofs.filling.fill_entries.Given as goal

abbrev pub invariant-loop-turn : goal.invariant-loop-turn
invariant-loop-turn l =
    FilledSo l.turns l.turn-index l.initial.machine l.initial.chooser l.machine l.chooser l.initial.entries l.entries
