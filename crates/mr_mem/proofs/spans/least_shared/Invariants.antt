use Rattle.mr_mem.proofs.Common.{◌≡◌, fold}
use Rattle.mr_mem.proofs.LeastLaws.{least_with}
use Rattle.mr_mem.proofs.spans.least_shared.Given as goal

-- the least of what is left and of what was found so far is that of all
abbrev pub invariant-loop-span : goal.invariant-loop-span
invariant-loop-span l = fold least_with l.least l.span-iterator ≡ fold least_with l.initial.least l.initial.span-iterator
