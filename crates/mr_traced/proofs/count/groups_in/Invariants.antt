use Rattle.mr_traced.proofs.Common.{◌≡◌, ◌++◌, values_of}
use Rattle.mr_traced.proofs.count.groups_in.Given as goal

-- those before this one are there
abbrev pub invariant-loop-group : goal.invariant-loop-group
invariant-loop-group l = l.found.items ++ values_of l.group-iterator ≡ values_of l.groups.entries
