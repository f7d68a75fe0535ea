use Rattle.mr_layout.proofs.Common.{◌≡◌, drop, are_tags_alone}
use Rattle.mr_layout.proofs.enum_rules.are_tags_alone.Given as goal

abbrev pub invariant-loop-variant : goal.invariant-loop-variant
invariant-loop-variant l = are_tags_alone l.size l.variants ≡ are_tags_alone l.size (drop l.variant-index l.variants)
