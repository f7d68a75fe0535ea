use Rattle.mr_picture.proofs.Common.{◌≡◌, subst, IfOk, Span, seen, scene_text}
use Rattle.mr_picture.specs.Drawn.{span_scene}
use Rattle.mr_picture.proofs.drawing.picture.Goals as goal

pub returns : goal.returns
returns c =
    let s = seen c.args.shown.now in
    subst (λ (span : Span). IfOk c.span_text.result (λ text. text.items ≡ scene_text (span_scene s c.args.values.now span)))
    c.chosen-span.ensures c.span_text.ensures
