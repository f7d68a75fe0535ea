use Rattle.mr_picture.proofs.Common.{◌≡◌, ◌++◌, flat_map, take, seen}
use Rattle.mr_picture.specs.Drawn.{told_name}
use Rattle.mr_picture.proofs.drawn.push_each_started.Given as goal

-- the threads that the steps before this one started are named
abbrev pub invariant-loop-told : goal.invariant-loop-told
invariant-loop-told l =
    l.out.items ≡ l.fn.out.items ++ flat_map (told_name (seen l.shown)) (take l.told-index l.steps)
