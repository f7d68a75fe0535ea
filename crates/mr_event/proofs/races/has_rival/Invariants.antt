use Rattle.mr_event.specs.Order.{HasNoRivalBelow}
use Rattle.mr_event.proofs.races.has_rival.Given as goal

abbrev pub invariant-loop-i : goal.invariant-loop-i
invariant-loop-i l = HasNoRivalBelow l.run l.i l.j
