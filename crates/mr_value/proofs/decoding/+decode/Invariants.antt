use Rattle.mr_value.proofs.Common.{◌≡◌, ◌++◌, ◌+◌, ◌-◌, ◌*◌, true, drop, option_map, weight_of, fields_weight, are_ok, are_variants_ok, size_of, bytes_of_pieces, part, decoded, read_fields, read_variant, elements_in}
use Rattle.mr_value.proofs.Weights.{variants_weight}
use Rattle.mr_value.proofs.decoding.+decode.Given as goal

abbrev pub invariant-decode_fields-loop-field : goal.invariant-decode_fields-loop-field
invariant-decode_fields-loop-field l = record {
  ok : are_ok l.size (drop l.field-index l.fields) ≡ true;
  all : read_fields l.fields (part l.at l.size (bytes_of_pieces l.v)) ≡ option_map (λ vs. l.values ++ vs) (read_fields (drop l.field-index l.fields) (part l.at l.size (bytes_of_pieces l.v)));
}

abbrev pub invariant-decode_elements-loop-i : goal.invariant-decode_elements-loop-i
invariant-decode_elements-loop-i l = record {
  all : elements_in l.count (size_of l.elem) (decoded l.elem) (part l.at (l.count * size_of l.elem) (bytes_of_pieces l.v))
      ≡ option_map (λ vs. l.values ++ vs) (elements_in (l.count - l.i) (size_of l.elem) (decoded l.elem) (drop (l.i * size_of l.elem) (part l.at (l.count * size_of l.elem) (bytes_of_pieces l.v))));
}

abbrev pub invariant-decode_variant-loop-variant : goal.invariant-decode_variant-loop-variant
invariant-decode_variant-loop-variant l = record {
  ok : are_variants_ok l.size (drop l.variant-index l.variants) ≡ true;
  all : read_variant l.variants (part l.at l.size (bytes_of_pieces l.v)) l.number ≡ read_variant (drop l.variant-index l.variants) (part l.at l.size (bytes_of_pieces l.v)) l.number;
}

abbrev pub decreases-decode_at : goal.decreases-decode_at
decreases-decode_at l = 2 * weight_of l.t.now

abbrev pub decreases-decode_fields : goal.decreases-decode_fields
decreases-decode_fields l = 2 * fields_weight l.fields.now

abbrev pub decreases-decode_elements : goal.decreases-decode_elements
decreases-decode_elements l = 2 * weight_of l.elem.now + 1

abbrev pub decreases-decode_variant : goal.decreases-decode_variant
decreases-decode_variant l = 2 * variants_weight l.variants.now
