use Rattle.mr_hunt.proofs.Common.{◌≡◌, map, take, counted}
use Rattle.mr_hunt.proofs.counting.each_counted.Given as goal

-- the rows before this one are counted
abbrev pub invariant-loop-row : goal.invariant-loop-row
invariant-loop-row l = l.more.items ≡ map (counted l.ends) (take l.row-index l.rows)
