use Rattle.mr_layout.proofs.Common.{◌≡◌, true, drop, are_tags_alone, is_variant_tag_used}
use Rattle.mr_layout.proofs.enum_rules.is_some_variant_tag_used.Given as goal

abbrev pub invariant-loop-variant : goal.invariant-loop-variant
invariant-loop-variant l =
    (is_variant_tag_used l.variants ≡ is_variant_tag_used (drop l.variant-index l.variants)) × (are_tags_alone l.size (drop l.variant-index l.variants) ≡ true)
