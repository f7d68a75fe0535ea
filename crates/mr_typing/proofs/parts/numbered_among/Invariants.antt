use Rattle.mr_typing.proofs.Common.{◌≡◌, drop, among}
use Rattle.mr_typing.proofs.parts.numbered_among.Given as goal

abbrev pub invariant-loop-variant : goal.invariant-loop-variant
invariant-loop-variant l = among (λ v. v) l.variants l.number ≡ among (λ v. v) (drop l.variant-index l.variants) l.number
