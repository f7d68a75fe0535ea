use Rattle.mr_fill.proofs.Common.{ℕ, List, [], ◌∷◌, ◌++◌, ◌∙◌, ap}
use Rattle.std.specs.Prelude.{codes, decimal}
use Rattle.mr_sched.specs.Rules.{name_by_code}
use Rattle.mr_fill.proofs.Appended.{behind}
use Rattle.mr_fill.proofs.told.push_halt.Goals as goal

pub returns : goal.returns
returns c =
    let old = c.args.out.now.items in
    let words = codes "# line " in
    let line = decimal c.args.halt.line in
    let next = codes " can't go on: " in
    let code = decimal c.args.halt.code in
    let gap : List ℕ = 32 ∷ [] in
    let name = name_by_code c.args.halt.code in
    let end : List ℕ = 10 ∷ [] in
    behind old (words ++ line ++ next ++ code ++ gap ++ name) end _ _
    (behind old (words ++ line ++ next ++ code ++ gap) name _ _
    (behind old (words ++ line ++ next ++ code) gap _ _
    (behind old (words ++ line ++ next) code _ _
    (behind old (words ++ line) next _ _
    (behind old words line _ _ c.in_ok-extend_from_slice.ensures.items
    (c.in_ok-push_number.ensures ∙ ap (λ n. c.extend_from_slice.new.self.items ++ decimal n) c.from.ensures))
    c.in_ok-extend_from_slice-2.ensures.items)
    (c.in_ok-push_number-2.ensures ∙ ap (λ n. c.extend_from_slice-2.new.self.items ++ decimal n) c.from-2.ensures))
    c.in_ok-push.ensures.items)
    (c.in_ok-extend_from_slice-3.ensures.items ∙ ap (λ xs. c.push.new.self.items ++ xs) (c.as_bytes.ensures.value ∙ c.rule_name.ensures)))
    c.in_ok-push-2.ensures.items
