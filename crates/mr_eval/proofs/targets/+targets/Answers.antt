use Rattle.mr_eval.proofs.Common.{ap, ◌∙◌, arith, Ty, targets_of}
use Rattle.mr_eval.proofs.TargetLaws.{fields_end, nothing_left, nothing_more, targets_bool, targets_fn_ptr, targets_int, targets_raw, targets_union}
use Rattle.mr_eval.proofs.targets.+targets.Goals as goal

pub add_targets-returns-in-Int : goal.add_targets-returns-in-Int
add_targets-returns-in-Int g c = nothing_more _ _ (ap (λ (t : Ty). targets_of t c.args.v.now) c.in-Int.is ∙ targets_int _ c.args.v.now)

pub add_targets-returns-in-Bool : goal.add_targets-returns-in-Bool
add_targets-returns-in-Bool g c = nothing_more _ _ (ap (λ (t : Ty). targets_of t c.args.v.now) c.in-Bool.is ∙ targets_bool c.args.v.now)

pub add_targets-returns-in-Raw : goal.add_targets-returns-in-Raw
add_targets-returns-in-Raw g c = nothing_more _ _ (ap (λ (t : Ty). targets_of t c.args.v.now) c.in-Raw.is ∙ targets_raw c.args.v.now)

pub add_targets-returns-in-FnPtr : goal.add_targets-returns-in-FnPtr
add_targets-returns-in-FnPtr g c = nothing_more _ _ (ap (λ (t : Ty). targets_of t c.args.v.now) c.in-FnPtr.is ∙ targets_fn_ptr c.args.v.now)

pub add_targets-returns-in-Union : goal.add_targets-returns-in-Union
add_targets-returns-in-Union g c = nothing_more _ _ (ap (λ (t : Ty). targets_of t c.args.v.now) c.in-Union.is ∙ targets_union _ _ _ _ c.args.v.now)

pub add_fields-returns-then-i-values : goal.add_fields-returns-then-i-values
add_fields-returns-then-i-values g c = nothing_left _ _ _ c.loop-i.invariant (fields_end c.args.fields.now c.args.values.now c.loop-i.i (omega arith))
