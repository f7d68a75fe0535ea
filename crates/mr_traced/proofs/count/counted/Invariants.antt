use Rattle.mr_traced.proofs.Common.{◌≡◌, take, get, Both, both_cmp, group_at, seen}
use Rattle.mr_traced.proofs.count.counted.Given as goal

-- the races before this one are counted
abbrev pub invariant-loop-pair : goal.invariant-loop-pair
invariant-loop-pair l =
    (q : Both) → get both_cmp l.groups q ≡ group_at (seen l.shown) q (take l.pair-index (seen l.shown).races)
