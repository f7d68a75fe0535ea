use Rattle.mr_wf.proofs.Common.{◌≡◌, map, take}
use Rattle.mr_layout.specs.Alike.{variant_key}
use Rattle.mr_wf.proofs.listing.variant_keys.Given as goal

abbrev pub invariant-loop-variant : goal.invariant-loop-variant
invariant-loop-variant l = l.keys.items ≡ map variant_key (take l.variant-index l.variants)
