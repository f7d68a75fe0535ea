use Rattle.std.proofs.Common.{◌++◌, ◌∙◌, ap}
use Rattle.std.specs.Prelude.{codes}
use Rattle.mr_svg.specs.Style.{style_text}
use Rattle.mr_svg.specs.Svg.{opening_text}
use Rattle.mr_svg.proofs.Appended.{behind, last_behind}
use Rattle.mr_svg.proofs.document.push_head.Goals as goal

pub returns : goal.returns
returns c =
    let old = c.args.out.now.items in
    let opening = opening_text c.args.wide c.args.high c.args.title.now in
    let paper = codes "<rect class=\"paper\" width=\"100%\" height=\"100%\"/>\n" in
    last_behind c.push-2.result old (opening ++ style_text) paper _ _
    (behind old opening style_text _ _ c.in_ok-push_opening.ensures
    (c.in_ok-push.ensures ∙ ap (λ xs. c.push_opening.new.out.items ++ xs) c.style.ensures))
    c.push-2.ensures
