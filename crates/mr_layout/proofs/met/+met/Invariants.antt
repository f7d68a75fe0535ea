use Rattle.mr_layout.proofs.Common.{◌≡◌, true, drop, is_used, is_met, is_field_met, is_variant_met, are_rows_met, is_in_order}
use Rattle.mr_layout.proofs.met.+met.Given as goal

abbrev pub invariant-is_met-loop-range : goal.invariant-is_met-loop-range
invariant-is_met-loop-range l =
    (is_met (is_used l.t) l.start l.end l.ranges ≡ are_rows_met (is_used l.elem) l.len l.start l.stop (drop l.range-index l.range-items)) × (is_in_order (drop l.range-index l.range-items) ≡ true)

abbrev pub invariant-is_field_met-loop-field : goal.invariant-is_field_met-loop-field
invariant-is_field_met-loop-field l = is_field_met l.fields l.start l.end l.ranges ≡ is_field_met (drop l.field-index l.fields) l.start l.end l.ranges

abbrev pub invariant-is_variant_met-loop-variant : goal.invariant-is_variant_met-loop-variant
invariant-is_variant_met-loop-variant l = is_variant_met l.variants l.start l.end l.ranges ≡ is_variant_met (drop l.variant-index l.variants) l.start l.end l.ranges
