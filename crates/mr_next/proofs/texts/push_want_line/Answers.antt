use Rattle.mr_next.proofs.Common.{ℕ, List, [], ◌∷◌, ◌++◌, codes}
use Rattle.mr_next.specs.Texts.{want_text}
use Rattle.mr_next.proofs.Appended.{behind}
use Rattle.mr_next.proofs.texts.push_want_line.Goals as goal

pub returns : goal.returns
returns c =
    let old = c.args.out.now.items in
    let words = codes "        asks for " in
    let want = want_text c.args.p.now c.args.here c.args.name c.args.want.now in
    let end : List ℕ = 10 ∷ [] in
    behind old (words ++ want) end _ _
    (behind old words want _ _ c.in_ok-extend_from_slice.ensures.items
    c.in_ok-push_want.ensures)
    c.in_ok-push.ensures.items
