use Rattle.mr_next.proofs.Common.{ℕ, List, [], ◌∷◌, ◌++◌, ◌∙◌, ap, codes, decimal}
use Rattle.mr_next.proofs.Appended.{behind}
use Rattle.mr_next.proofs.texts.push_earlier_line.Goals as goal

pub returns : goal.returns
returns c =
    let old = c.args.out.now.items in
    let words = codes "        the bytes were those of allocation " in
    let count = decimal c.args.id.count in
    let next = codes " of thread " in
    let thread = decimal c.args.id.thread in
    let end : List ℕ = 10 ∷ [] in
    behind old (words ++ count ++ next ++ thread) end _ _
    (behind old (words ++ count ++ next) thread _ _
    (behind old (words ++ count) next _ _
    (behind old words count _ _ c.in_ok-extend_from_slice.ensures.items
    c.in_ok-push_number.ensures)
    c.in_ok-extend_from_slice-2.ensures.items)
    (c.in_ok-push_number-2.ensures ∙ ap (λ n. c.extend_from_slice-2.new.self.items ++ decimal n) c.from.ensures))
    c.in_ok-push.ensures.items
