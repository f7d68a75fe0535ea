use Rattle.mr_intr.proofs.Common.{ℕ, List, ◌++◌, ◌∙◌, ap, sym, arith, append-nil, text_in}
use Rattle.mr_eval.proofs.ShapeOf.{shapes_length}
use Rattle.mr_intr.proofs.TextLaws.{scalar_here, shape_here, texts_end, texts_next}
use Rattle.mr_intr.proofs.texts.push_others.Goals as goal

pub bounds-types-i : goal.bounds-types-i
bounds-types-i c = omega (arith, shapes_length c.args.types.now c.args.args.now c.requires.shapes)

pub push_value-requires-clause-scalar : goal.push_value-requires-clause-scalar
push_value-requires-clause-scalar c =
    scalar_here c.args.types.now c.loop-i.i c.index-types-i.result c.requires.scalars (omega (arith, shapes_length c.args.types.now c.args.args.now c.requires.shapes)) c.index-types-i.is

pub push_value-requires-clause-shape : goal.push_value-requires-clause-shape
push_value-requires-clause-shape c =
    shape_here c.args.types.now c.args.args.now c.loop-i.i c.index-types-i.result c.index-args-i.result c.requires.shapes (omega arith) c.index-types-i.is c.index-args-i.is

pub loop-i-preserved : goal.loop-i-preserved
loop-i-preserved c =
    let t = c.index-types-i.result in
    let v = c.index-args-i.result in
    c.loop-i.invariant
    ∙ texts_next c.args.types.now c.args.args.now c.loop-i.i t v c.loop-i.text.items c.push_value.new.text.items
    (omega (arith, shapes_length c.args.types.now c.args.args.now c.requires.shapes)) (omega arith) c.index-types-i.is c.index-args-i.is
    (c.in_ok-push_value.ensures ∙ ap (λ (xs : List ℕ). xs ++ text_in t v) c.in_ok-push.ensures.items)

pub returns : goal.returns
returns c =
    sym (c.loop-i.invariant ∙ ap (λ (xs : List ℕ). c.loop-i.text.items ++ xs) (texts_end c.args.types.now c.args.args.now c.loop-i.i c.requires.shapes (omega arith)) ∙ append-nil c.loop-i.text.items)
