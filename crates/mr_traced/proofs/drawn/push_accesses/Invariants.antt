use Rattle.mr_traced.proofs.Common.{◌≡◌, ◌++◌, flat_map, take}
use Rattle.mr_traced.specs.Drawn.{access_deed}
use Rattle.mr_traced.proofs.drawn.push_accesses.Given as goal

-- the accesses before this one are told
abbrev pub invariant-loop-access : goal.invariant-loop-access
invariant-loop-access l = l.out.items ≡ l.fn.out.items ++ flat_map access_deed (take l.access-index l.accesses)
