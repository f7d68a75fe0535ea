use Rattle.mr_hunt.proofs.Common.{◌≡◌, ◌++◌, map, take, race_at}
use Rattle.mr_hunt.proofs.seeing.push_each.Given as goal

-- the races before this one stand there
abbrev pub invariant-loop-pair : goal.invariant-loop-pair
invariant-loop-pair l = l.ends.items ≡ l.fn.ends.items ++ map (race_at l.stands) (take l.pair-index l.races)
