use Rattle.mr_run.proofs.Common.{◌≡◌}
use Rattle.std.proofs.Common.{drop}
use Rattle.mr_run.specs.Witnesses.{race_of}
use Rattle.mr_run.proofs.witnesses.race_of.Given as goal

-- the race that the rest lists is the one that all list
abbrev pub invariant-loop-pair : goal.invariant-loop-pair
invariant-loop-pair l = race_of l.step (drop l.pair-index l.races) ≡ race_of l.step l.races
