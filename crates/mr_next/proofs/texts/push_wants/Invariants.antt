use Rattle.mr_next.proofs.Common.{◌≡◌, ◌++◌, flat_map, range_with_len, numbered_want}
use Rattle.mr_next.proofs.texts.push_wants.Given as goal

-- what is asked for before this is written
abbrev pub invariant-loop-at : goal.invariant-loop-at
invariant-loop-at l =
    l.out.items ≡ l.fn.out.items ++ flat_map (numbered_want l.p l.here l.names l.wants) (range_with_len 0 l.at)
