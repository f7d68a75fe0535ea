use Rattle.mr_next.proofs.Common.{◌≡◌, ◌++◌, ◌∙◌, ℕ, ap, subst, codes, decimal, OnOk}
use Rattle.mr_next.proofs.Appended.{behind, last_behind}
use Rattle.mr_next.proofs.texts.push_entry.Goals as goal

pub returns : goal.returns
returns c =
    let old = c.args.out.now.items in
    let words = codes "entry " in
    let number = decimal c.args.number in
    let next = codes " of thread " in
    let thread = decimal c.args.thread in
    last_behind c.push_number-2.result old (words ++ number ++ next) thread _ _
    (behind old (words ++ number) next _ _
    (behind old words number _ _ c.in_ok-extend_from_slice.ensures.items
    (c.in_ok-push_number.ensures ∙ ap (λ n. c.extend_from_slice.new.self.items ++ decimal n) c.from.ensures))
    c.in_ok-extend_from_slice-2.ensures.items)
    (subst (λ (n : ℕ). OnOk c.push_number-2.result (c.push_number-2.new.out.items ≡ c.extend_from_slice-2.new.self.items ++ decimal n)) c.from-2.ensures c.push_number-2.ensures)
