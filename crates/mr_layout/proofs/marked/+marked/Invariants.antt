use Rattle.mr_layout.proofs.Common.{◌≡◌, drop, is_field_marked, is_variant_marked}
use Rattle.mr_layout.proofs.marked.+marked.Given as goal

abbrev pub invariant-is_field_marked-loop-field : goal.invariant-is_field_marked-loop-field
invariant-is_field_marked-loop-field l = is_field_marked l.fields l.table ≡ is_field_marked (drop l.field-index l.fields) l.table

abbrev pub invariant-is_variant_marked-loop-variant : goal.invariant-is_variant_marked-loop-variant
invariant-is_variant_marked-loop-variant l = is_variant_marked l.variants l.table ≡ is_variant_marked (drop l.variant-index l.variants) l.table
