use Rattle.std.proofs.Common.{ℕ, List, [], ◌∷◌, ◌++◌}
use Rattle.std.specs.Prelude.{codes}
use Rattle.mr_refusals.specs.Heads.{code_text, lines_text, place_text}
use Rattle.mr_next.proofs.Appended.{behind, last_behind}
use Rattle.mr_refusals.proofs.heads.push_fault.Goals as goal

pub returns : goal.returns
returns c =
    let old = c.args.out.now.items in
    let m = c.args.mark in
    let place = place_text c.args.source.name.now m.line m.col in
    let colon = codes ": " in
    let code = code_text c.args.code in
    let end : List ℕ = 10 ∷ [] in
    let lines = lines_text c.args.source.text.now m.line m.col in
    last_behind c.push_marked_line.result old (place ++ colon ++ code ++ end) lines _ _
    (behind old (place ++ colon ++ code) end _ _
    (behind old (place ++ colon) code _ _
    (behind old place colon _ _
    c.in_ok-push_place.ensures
    c.in_ok-extend_from_slice.ensures.items)
    c.in_ok-push_code.ensures)
    c.in_ok-push.ensures.items)
    c.push_marked_line.ensures
