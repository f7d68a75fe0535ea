use Rattle.mr_next.proofs.Common.{◌-◌, ℕ, List, [], ◌∷◌, ◌++◌, ◌∙◌, ap, codes}
use Rattle.mr_next.specs.Texts.{code_text, entry_text}
use Rattle.mr_next.proofs.Appended.{behind}
use Rattle.mr_next.proofs.texts.push_rule.Goals as goal

pub returns : goal.returns
returns c =
    let old = c.args.out.now.items in
    let entry = entry_text (c.args.broken.now.place - 2) c.args.entry.now.thread in
    let breaks = codes " breaks " in
    let code = code_text c.args.sentence.now c.args.broken.now.code in
    let end : List ℕ = 10 ∷ [] in
    behind old (entry ++ breaks ++ code) end _ _
    (behind old (entry ++ breaks) code _ _
    (behind old entry breaks _ _
    (c.in_ok-push_entry.ensures ∙ ap (λ n. old ++ entry_text n c.args.entry.now.thread) c.saturating_sub.ensures)
    c.in_ok-extend_from_slice.ensures.items)
    c.in_ok-push_code.ensures)
    c.in_ok-push.ensures.items
