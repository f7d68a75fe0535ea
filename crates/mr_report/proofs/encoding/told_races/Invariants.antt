use Rattle.std.proofs.Common.{◌≡◌, ◌+◌, map, take}
use Rattle.mr_report.proofs.encoding.told_races.Given as goal

-- the races before this one were told
abbrev pub invariant-loop-pair : goal.invariant-loop-pair
invariant-loop-pair l = l.told.items ≡ map (λ p. (p.first + 1, p.second + 1)) (take l.pair-index l.races)
