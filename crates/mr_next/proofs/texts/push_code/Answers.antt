use Rattle.mr_next.proofs.Common.{ℕ, List, [], ◌∷◌, ◌++◌, ◌∙◌, ap, codes, decimal}
use Rattle.mr_sched.specs.Rules.{name_by_code}
use Rattle.mr_next.proofs.Appended.{behind}
use Rattle.mr_next.proofs.texts.push_code.Goals as goal

pub returns : goal.returns
returns c =
    let old = c.args.out.now.items in
    let code = decimal c.args.code in
    let gap : List ℕ = 32 ∷ [] in
    let name = name_by_code c.args.code in
    let colon = codes ": " in
    let sentence = c.args.sentence.now in
    behind old (code ++ gap ++ name ++ colon) sentence _ _
    (behind old (code ++ gap ++ name) colon _ _
    (behind old (code ++ gap) name _ _
    (behind old code gap _ _ (c.in_ok-push_number.ensures ∙ ap (λ n. old ++ decimal n) c.from.ensures)
    c.in_ok-push.ensures.items)
    (c.in_ok-extend_from_slice.ensures.items ∙ ap (λ xs. c.push.new.self.items ++ xs) (c.as_bytes.ensures.value ∙ c.rule_name.ensures)))
    c.in_ok-extend_from_slice-2.ensures.items)
    (c.in_ok-extend_from_slice-3.ensures.items ∙ ap (λ xs. c.extend_from_slice-2.new.self.items ++ xs) c.as_bytes-2.ensures.value)
