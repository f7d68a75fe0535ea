use Rattle.mr_picture.proofs.Common.{max, ◌≡◌, ◌-◌, ◌≤◌, filter, range_with_len, is_left_out}
use Rattle.mr_picture.proofs.witness.left_out.Given as goal

-- those before this one are there
abbrev pub invariant-loop-step : goal.invariant-loop-step
invariant-loop-step l = record {
  from : l.fn.span.from ≤ l.step;
  to : l.step ≤ max l.fn.span.from l.fn.span.to;
  made : l.found.items ≡ filter (is_left_out l.run l.race) (range_with_len l.fn.span.from (l.step - l.fn.span.from));
}
