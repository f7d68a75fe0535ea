use Rattle.mr_layout.proofs.Common.{◌≡◌, drop, each_variant}
use Rattle.mr_layout.proofs.enum_rules.each_variant.Given as goal

abbrev pub invariant-loop-variant : goal.invariant-loop-variant
invariant-loop-variant l = each_variant l.size l.most l.disc l.variants ≡ each_variant l.size l.most l.disc (drop l.variant-index l.variants)
