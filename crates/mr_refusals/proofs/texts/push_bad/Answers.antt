use Rattle.std.proofs.Common.{ℕ, List, [], ◌∷◌, ◌++◌, ◌∙◌, ap}
use Rattle.std.specs.Prelude.{codes, decimal}
use Rattle.mr_next.proofs.Appended.{behind}
use Rattle.mr_refusals.proofs.texts.push_bad.Goals as goal

pub returns : goal.returns
returns c =
    let old = c.args.out.now.items in
    let words = codes "the byte is " in
    let byte = decimal c.args.byte in
    let end : List ℕ = 10 ∷ [] in
    behind old (words ++ byte) end _ _
    (behind old words byte _ _
    c.in_ok-extend_from_slice.ensures.items
    (c.in_ok-push_number.ensures ∙ ap (λ n. c.extend_from_slice.new.self.items ++ decimal n) c.from.ensures))
    c.in_ok-push.ensures.items
