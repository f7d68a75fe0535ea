use Rattle.mr_layout.proofs.Common.{◌≡◌, map, take, variant_key}
use Rattle.mr_layout.proofs.alike.variant_keys.Given as goal

abbrev pub invariant-loop-variant : goal.invariant-loop-variant
invariant-loop-variant l = l.keys.items ≡ map variant_key (take l.variant-index l.variants)
