use Rattle.mr_picture.proofs.Common.{max, ◌≡◌, ◌-◌, ◌≤◌, filter, range_with_len, is_other}
use Rattle.mr_picture.proofs.witness.others.Given as goal

-- those before this one are there
abbrev pub invariant-loop-step : goal.invariant-loop-step
invariant-loop-step l = record {
  from : l.from ≤ l.step;
  to : l.step ≤ max l.from l.race.second;
  made : l.found.items ≡ filter (is_other l.run l.race) (range_with_len l.from (l.step - l.from));
}
