use Rattle.mr_rust_order.proofs.Common.{◌≡◌, ◌<◌, length, Tracks}
use Rattle.std.specs.Prelude.{drop}
use Rattle.mr_rust_order.specs.Gaps.{first_gap}
use Rattle.mr_rust_order.proofs.gaps.first_gap.Given as goal

-- the way from here on has the first link that is left
abbrev pub invariant-loop-step : goal.invariant-loop-step
invariant-loop-step l = record {
  tracks : Tracks l.run l.known l.analysis;
  on : first_gap l.run l.at (drop l.step-index l.way) ≡ first_gap l.run l.from l.way;
  here : l.at < length l.run;
}
