use Rattle.mr_show.proofs.Common.{◌≡◌, map, take, seen}
use Rattle.mr_show.specs.Next.{position_of}
use Rattle.mr_show.proofs.next.each_position.Given as goal

-- the threads before this one have their positions
abbrev pub invariant-loop-rest : goal.invariant-loop-rest
invariant-loop-rest l = l.positions.items ≡ map (position_of (seen l.shown)) (take l.rest-index l.rests)
