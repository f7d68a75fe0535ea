use Rattle.mr_traced.proofs.Common.{◌≡◌, subst, IfOk, seen}
use Rattle.mr_picture.specs.declared.span.Span.{Span}
use Rattle.mr_traced.specs.Drawn.{span_text}
use Rattle.mr_traced.proofs.drawn.picture_text.Goals as goal

pub returns : goal.returns
returns c =
    let s = seen c.args.shown.now in
    subst (λ (span : Span). IfOk c.span_text.result (λ text. text.items ≡ span_text s span))
    c.chosen.ensures c.span_text.ensures
