use Rattle.std.proofs.Common.{◌≡◌}
use Rattle.mr_refusals.specs.Spots.{is_head, last_of}
use Rattle.mr_refusals.proofs.spots.last_head.Given as goal

-- the last of the tokens before this one
abbrev pub invariant-loop-at : goal.invariant-loop-at
invariant-loop-at l = l.found ≡ last_of (is_head l.tokens l.first l.second l.byte) l.at
