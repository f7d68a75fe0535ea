use Rattle.std.proofs.Common.{◌++◌}
use Rattle.std.specs.Prelude.{codes}
use Rattle.mr_svg.specs.Escape.{escaped}
use Rattle.mr_svg.specs.Svg.{size_text}
use Rattle.mr_svg.proofs.Appended.{behind, last_behind}
use Rattle.mr_svg.proofs.document.push_opening.Goals as goal

pub returns : goal.returns
returns c =
    let old = c.args.out.now.items in
    let tag = codes "<svg xmlns=\"http://www.w3.org/2000/svg\"" in
    let size = size_text c.args.wide c.args.high in
    let open_title = codes " xml:space=\"preserve\" role=\"img\">\n<title>" in
    let title = escaped c.args.title.now in
    let close_title = codes "</title>\n" in
    last_behind c.push-3.result old (tag ++ size ++ open_title ++ title) close_title _ _
    (behind old (tag ++ size ++ open_title) title _ _
    (behind old (tag ++ size) open_title _ _
    (behind old tag size _ _ c.in_ok-push.ensures c.in_ok-push_size.ensures)
    c.in_ok-push-2.ensures)
    c.in_ok-push_escaped.ensures)
    c.push-3.ensures
