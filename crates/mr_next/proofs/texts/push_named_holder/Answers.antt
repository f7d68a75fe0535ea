use Rattle.mr_next.proofs.Common.{◌++◌, ◌∙◌, ap, codes, decimal}
use Rattle.mr_next.proofs.Appended.{behind}
use Rattle.mr_next.proofs.texts.push_named_holder.Goals as goal

pub returns : goal.returns
returns c =
    let old = c.args.out.now.items in
    let words = codes ", which thread " in
    let thread = decimal c.args.thread in
    let has = codes " has" in
    behind old (words ++ thread) has _ _
    (behind old words thread _ _ c.in_ok-extend_from_slice.ensures.items
    (c.in_ok-push_number.ensures ∙ ap (λ n. c.extend_from_slice.new.self.items ++ decimal n) c.from.ensures))
    c.in_ok-extend_from_slice-2.ensures.items
