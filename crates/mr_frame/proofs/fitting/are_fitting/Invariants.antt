use Rattle.mr_frame.proofs.Common.{◌≤◌, drop, length, env_surround}
use Rattle.mr_frame.proofs.FittingLaws.{Fitting}
use Rattle.mr_frame.proofs.fitting.are_fitting.Given as goal

-- these arguments are not compared still
abbrev pub invariant-loop-k : goal.invariant-loop-k
invariant-loop-k l = record {
  inside : l.k ≤ length l.names;
  fits : Fitting (env_surround l.e) l.function (drop l.k l.args) (drop l.k l.names) l.args l.names;
}
