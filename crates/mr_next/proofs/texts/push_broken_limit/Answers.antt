use Rattle.mr_next.proofs.Common.{ℕ, List, [], ◌∷◌, ◌++◌, ◌∙◌, ap, codes, decimal}
use Rattle.mr_sched.specs.Rules.{name_by_code}
use Rattle.mr_next.proofs.Appended.{behind}
use Rattle.mr_next.proofs.texts.push_broken_limit.Goals as goal

pub returns : goal.returns
returns c =
    let old = c.args.out.now.items in
    let words = codes "        would break " in
    let code = decimal c.args.code in
    let gap : List ℕ = 32 ∷ [] in
    let name = name_by_code c.args.code in
    let end : List ℕ = 10 ∷ [] in
    behind old (words ++ code ++ gap ++ name) end _ _
    (behind old (words ++ code ++ gap) name _ _
    (behind old (words ++ code) gap _ _
    (behind old words code _ _ c.in_ok-extend_from_slice.ensures.items
    (c.in_ok-push_number.ensures ∙ ap (λ n. c.extend_from_slice.new.self.items ++ decimal n) c.from.ensures))
    c.in_ok-push.ensures.items)
    (c.in_ok-extend_from_slice-2.ensures.items ∙ ap (λ xs. c.push.new.self.items ++ xs) (c.as_bytes.ensures.value ∙ c.rule_name.ensures)))
    c.in_ok-push-2.ensures.items
