use Rattle.mr_eval.proofs.Common.{◌≡◌, ◌+◌, ◌*◌, ◌++◌, drop, Went, on, Extends, surround_of, seen, each_valued, SoundValues}
use Rattle.mr_eval.proofs.ExprWeights.{place_weight, row_weight, value_weight}
use Rattle.mr_eval.proofs.evaluating.+evaluated.Given as goal

abbrev pub decreases-placed : goal.decreases-placed
decreases-placed l = 2 * place_weight l.place.now

abbrev pub decreases-pointed_place : goal.decreases-pointed_place
decreases-pointed_place l = 2 * value_weight l.pointer.now + 1

abbrev pub decreases-field_place : goal.decreases-field_place
decreases-field_place l = 2 * place_weight l.whole.now + 1

abbrev pub decreases-indexed_place : goal.decreases-indexed_place
decreases-indexed_place l = 2 * (place_weight l.array.now + value_weight l.index.now) + 1

abbrev pub decreases-variant_place : goal.decreases-variant_place
decreases-variant_place l = 2 * place_weight l.whole.now + 1

abbrev pub decreases-valued : goal.decreases-valued
decreases-valued l = 2 * value_weight l.value.now

abbrev pub decreases-load_expression : goal.decreases-load_expression
decreases-load_expression l = 2 * place_weight l.place.now + 1

abbrev pub decreases-disc_expression : goal.decreases-disc_expression
decreases-disc_expression l = 2 * place_weight l.place.now + 1

abbrev pub decreases-address_expression : goal.decreases-address_expression
decreases-address_expression l = 2 * place_weight l.place.now + 1

abbrev pub decreases-cast_expression : goal.decreases-cast_expression
decreases-cast_expression l = 2 * value_weight l.operand.now + 1

abbrev pub decreases-unary_expression : goal.decreases-unary_expression
decreases-unary_expression l = 2 * value_weight l.operand.now + 1

abbrev pub decreases-tuple_expression : goal.decreases-tuple_expression
decreases-tuple_expression l = 2 * row_weight l.values.now + 1

abbrev pub decreases-variant_expression : goal.decreases-variant_expression
decreases-variant_expression l = 2 * value_weight l.content.now + 1

abbrev pub decreases-union_expression : goal.decreases-union_expression
decreases-union_expression l = 2 * value_weight l.content.now + 1

abbrev pub decreases-transmute_expression : goal.decreases-transmute_expression
decreases-transmute_expression l = 2 * value_weight l.operand.now + 1

abbrev pub decreases-binary_expression : goal.decreases-binary_expression
decreases-binary_expression l = 2 * (value_weight l.left.now + value_weight l.right.now) + 1

abbrev pub decreases-each_valued : goal.decreases-each_valued
decreases-each_valued l = 2 * row_weight l.values.now

abbrev pub invariant-each_valued-loop-value : goal.invariant-each_valued-loop-value
invariant-each_valued-loop-value l = record {
  sound : SoundValues (surround_of l.fn.here) (drop l.value-index l.values);
  all : each_valued l.fn.here.memory.now (surround_of l.fn.here) l.values (seen l.fn.notes)
      ≡ on (each_valued l.fn.here.memory.now (surround_of l.fn.here) (drop l.value-index l.values) (seen l.notes)) (λ xs last. Went (l.row ++ xs) last);
  kept : Extends (seen l.fn.notes) (seen l.notes);
}
