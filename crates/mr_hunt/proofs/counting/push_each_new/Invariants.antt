use Rattle.mr_hunt.proofs.Common.{◌≡◌, ◌++◌, flat_map, take, new_row}
use Rattle.mr_hunt.proofs.counting.push_each_new.Given as goal

-- the ends before this one have their rows
abbrev pub invariant-loop-end : goal.invariant-loop-end
invariant-loop-end l = l.more.items ≡ l.fn.more.items ++ flat_map (new_row l.rows l.number) (take l.end-index l.ends)
