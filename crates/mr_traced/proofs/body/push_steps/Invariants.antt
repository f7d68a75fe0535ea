use Rattle.mr_traced.proofs.Common.{max, ◌≡◌, ◌++◌, ◌-◌, ◌≤◌, flat_map, range_with_len, seen, step_text}
use Rattle.mr_traced.proofs.body.push_steps.Given as goal

-- the steps before this one have their lines
abbrev pub invariant-loop-number : goal.invariant-loop-number
invariant-loop-number l = record {
  from : l.from ≤ l.number;
  to : l.number ≤ max l.from l.to;
  made :
      l.out.items
      ≡ l.fn.out.items ++ flat_map (step_text (seen l.shown)) (range_with_len l.from (l.number - l.from));
}
