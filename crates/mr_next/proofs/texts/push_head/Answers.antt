use Rattle.mr_next.proofs.Common.{ℕ, List, [], ◌∷◌, ◌++◌, codes, decimal, option_copied}
use Rattle.mr_next.specs.Texts.{at_text, status_text}
use Rattle.mr_next.proofs.Appended.{behind}
use Rattle.mr_next.proofs.texts.push_head.Goals as goal

pub returns : goal.returns
returns c =
    let old = c.args.out.now.items in
    let words = codes "thread " in
    let number = decimal c.args.thread in
    let status = status_text c.args.prospect.now.holder c.args.prospect.now.status in
    let at = at_text (option_copied c.args.position) in
    let end : List ℕ = 10 ∷ [] in
    behind old (words ++ number ++ status ++ at) end _ _
    (behind old (words ++ number ++ status) at _ _
    (behind old (words ++ number) status _ _
    (behind old words number _ _ c.in_ok-extend_from_slice.ensures.items
    c.in_ok-push_number.ensures)
    c.in_ok-push_status.ensures)
    c.in_ok-push_at.ensures)
    c.in_ok-push.ensures.items
