use Rattle.mr_traced.proofs.Common.{max, ◌≡◌, ◌-◌, ◌≤◌, map, range_with_len, drawn_step, seen}
use Rattle.mr_traced.proofs.drawn.drawn_steps.Given as goal

-- the steps before this one are there
abbrev pub invariant-loop-number : goal.invariant-loop-number
invariant-loop-number l = record {
  from : l.fn.span.from ≤ l.number;
  to : l.number ≤ max l.fn.span.from l.fn.span.to;
  made : l.drawn.items ≡ map (drawn_step (seen l.shown)) (range_with_len l.fn.span.from (l.number - l.fn.span.from));
}
