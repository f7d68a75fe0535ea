use Rattle.mr_next.proofs.Common.{◌++◌, ◌∙◌, ap, codes, decimal}
use Rattle.mr_next.specs.Texts.{holder_text}
use Rattle.mr_next.proofs.Appended.{behind, last_behind}
use Rattle.mr_next.proofs.texts.push_lock.Goals as goal

pub returns : goal.returns
returns c =
    let old = c.args.out.now.items in
    let words = codes " waits for lock " in
    let lock = decimal c.args.lock in
    let holder = holder_text c.args.holder in
    last_behind c.push_holder.result old (words ++ lock) holder _ _
    (behind old words lock _ _ c.in_ok-extend_from_slice.ensures.items
    (c.in_ok-push_number.ensures ∙ ap (λ n. c.extend_from_slice.new.self.items ++ decimal n) c.from.ensures))
    c.push_holder.ensures
