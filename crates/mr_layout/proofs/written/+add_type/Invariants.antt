use Rattle.mr_layout.proofs.Common.{◌≡◌, ◌++◌, take, types_of_fields, types_of_variants}
use Rattle.mr_layout.proofs.written.+add_type.Given as goal

abbrev pub invariant-add_fields-loop-field : goal.invariant-add_fields-loop-field
invariant-add_fields-loop-field l = l.found ≡ l.fn.found ++ types_of_fields (take l.field-index l.fields)

abbrev pub invariant-add_variants-loop-variant : goal.invariant-add_variants-loop-variant
invariant-add_variants-loop-variant l = l.found ≡ l.fn.found ++ types_of_variants (take l.variant-index l.variants)
