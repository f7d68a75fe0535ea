use Rattle.mr_traced.proofs.Common.{◌≡◌, ◌++◌, flat_map, take}
use Rattle.mr_traced.specs.Steps.{access_line}
use Rattle.mr_traced.proofs.lines.push_accesses.Given as goal

-- the accesses before this one have their lines
abbrev pub invariant-loop-access : goal.invariant-loop-access
invariant-loop-access l = l.out.items ≡ l.fn.out.items ++ flat_map access_line (take l.access-index l.accesses)
