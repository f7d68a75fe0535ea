use Rattle.mr_eval.proofs.Common.{◌≡◌, ◌++◌, drop, element_targets, targets_of, targets_of_fields, targets_of_variant}
use Rattle.mr_eval.proofs.targets.+targets.Given as goal

abbrev pub invariant-add_fields-loop-i : goal.invariant-add_fields-loop-i
invariant-add_fields-loop-i l = l.found.items ++ targets_of_fields (drop l.i l.fields) (drop l.i l.values) ≡ l.fn.found.items ++ targets_of_fields l.fields l.values

abbrev pub invariant-add_each-loop-value : goal.invariant-add_each-loop-value
invariant-add_each-loop-value l = l.found.items ++ element_targets (targets_of l.elem) (drop l.value-index l.values) ≡ l.fn.found.items ++ element_targets (targets_of l.elem) l.values

abbrev pub invariant-add_variant-loop-variant : goal.invariant-add_variant-loop-variant
invariant-add_variant-loop-variant l = l.found.items ++ targets_of_variant (drop l.variant-index l.variants) l.number l.content ≡ l.fn.found.items ++ targets_of_variant l.variants l.number l.content
