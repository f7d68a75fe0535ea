use Rattle.mr_value.proofs.Common.{◌≡◌, ◌++◌, ◌+◌, ◌*◌, true, drop, length, weight_of, fields_weight, are_all_tags, are_ok, are_variants_ok, BeginsWith, blank, element_bytes, encoding_of, write_fields, write_variant, elements_pass, has_shape, fields_have_shape, variant_has_shape}
use Rattle.mr_value.proofs.Weights.{variants_weight}
use Rattle.mr_value.proofs.encoding.+encode.Given as goal

abbrev pub invariant-tuple_bytes-loop-i : goal.invariant-tuple_bytes-loop-i
invariant-tuple_bytes-loop-i l = record {
  ok : are_ok l.size (drop l.i l.fields) ≡ true;
  shape : fields_have_shape (drop l.i l.fields) (drop l.i l.values) ≡ true;
  sized : length l.bytes.items ≡ l.size;
  all : write_fields l.fields l.values (blank l.size) ≡ write_fields (drop l.i l.fields) (drop l.i l.values) l.bytes.items;
}

abbrev pub invariant-append_elements-loop-value : goal.invariant-append_elements-loop-value
invariant-append_elements-loop-value l = record {
  shape : elements_pass (has_shape l.elem) (drop l.value-index l.values) ≡ true;
  all : l.initial.out.items ++ element_bytes (encoding_of l.elem) l.values ≡ l.out.items ++ element_bytes (encoding_of l.elem) (drop l.value-index l.values);
  front : BeginsWith l.out.items l.initial.out.items;
}

abbrev pub invariant-variant_bytes-loop-variant : goal.invariant-variant_bytes-loop-variant
invariant-variant_bytes-loop-variant l = record {
  ok : are_variants_ok l.size (drop l.variant-index l.variants) ≡ true;
  tags : are_all_tags l.size (drop l.variant-index l.variants) ≡ true;
  shape : variant_has_shape (drop l.variant-index l.variants) l.number l.value ≡ true;
  all : write_variant l.variants l.number l.value ≡ write_variant (drop l.variant-index l.variants) l.number l.value;
}

abbrev pub decreases-append : goal.decreases-append
decreases-append l = 2 * weight_of l.t.now

abbrev pub decreases-tuple_bytes : goal.decreases-tuple_bytes
decreases-tuple_bytes l = 2 * fields_weight l.fields.now

abbrev pub decreases-append_elements : goal.decreases-append_elements
decreases-append_elements l = 2 * weight_of l.elem.now + 1

abbrev pub decreases-variant_bytes : goal.decreases-variant_bytes
decreases-variant_bytes l = 2 * variants_weight l.variants.now
