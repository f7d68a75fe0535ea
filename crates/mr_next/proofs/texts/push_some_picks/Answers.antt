use Rattle.mr_next.proofs.Common.{ℕ, List, [], ◌∷◌, ◌++◌, ◌∙◌, ap, take, codes}
use Rattle.mr_next.specs.Texts.{blank_numbers, count_of_picks}
use Rattle.mr_next.proofs.Appended.{behind}
use Rattle.mr_next.proofs.texts.push_some_picks.Goals as goal

pub returns : goal.returns
returns c =
    let old = c.args.out.now.items in
    let words = codes "        picks" in
    let picks = blank_numbers (take 16 c.args.picks.now) in
    let count = count_of_picks c.args.picks.now in
    let end : List ℕ = 10 ∷ [] in
    behind old (words ++ picks ++ count) end _ _
    (behind old (words ++ picks) count _ _
    (behind old words picks _ _ c.in_ok-extend_from_slice.ensures.items
    (c.in_ok-push_numbers.ensures
    ∙ ap (λ xs. c.extend_from_slice.new.self.items ++ blank_numbers xs) c.first_picks.ensures))
    c.in_ok-push_count_of_picks.ensures)
    c.in_ok-push.ensures.items
