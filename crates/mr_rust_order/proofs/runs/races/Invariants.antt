use Rattle.mr_rust_order.proofs.Common.{AreRacesBelow, Tracks}
use Rattle.mr_rust_order.proofs.runs.races.Given as goal

abbrev pub invariant-loop-j : goal.invariant-loop-j
invariant-loop-j l = record { tracks : Tracks l.run l.j l.analysis; found : AreRacesBelow l.run l.j l.pairs.items }
