use Rattle.std.proofs.Common.{◌≡◌, drop}
use Rattle.std.specs.List.{find}
use Rattle.mr_refusals.specs.Texts.{begins_at}
use Rattle.mr_refusals.proofs.texts.token_at.Given as goal

-- what is found of the rest is what is found of all
abbrev pub invariant-loop-i : goal.invariant-loop-i
invariant-loop-i l = find (begins_at l.line l.col) (drop l.i l.tokens) ≡ find (begins_at l.line l.col) l.tokens
