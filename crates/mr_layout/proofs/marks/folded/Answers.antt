use Rattle.mr_layout.proofs.Common.{◌≡◌, ◌*◌, ◌%◌, sym, ap, ◌∙◌, arith, IfOk-weaker, is_marked}
use Rattle.mr_layout.proofs.marks.folded.Goals as goal

pub returns : goal.returns
returns c =
    let times : c.args.len * 256 ≡ 256 * c.args.len = omega arith in
    IfOk-weaker c.gathered-3.result _ _
    (λ all h part. c.in_ok-wide.ensures.same part c.args.len 256 times ∙ ap (is_marked (λ at. part (at % c.args.len))) (sym c.as_slice.ensures.value) ∙ h part)
    c.gathered-3.ensures.one
