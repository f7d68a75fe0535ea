use Rattle.mr_next.proofs.Common.{ℕ, List, [], ◌∷◌, ◌++◌, codes, decimal}
use Rattle.mr_next.proofs.Appended.{behind}
use Rattle.mr_next.proofs.texts.push_pick_line.Goals as goal

pub returns : goal.returns
returns c =
    let old = c.args.out.now.items in
    let words = codes "        by the pick " in
    let pick = decimal c.args.pick in
    let end : List ℕ = 10 ∷ [] in
    behind old (words ++ pick) end _ _
    (behind old words pick _ _ c.in_ok-extend_from_slice.ensures.items
    c.in_ok-push_number.ensures)
    c.in_ok-push.ensures.items
