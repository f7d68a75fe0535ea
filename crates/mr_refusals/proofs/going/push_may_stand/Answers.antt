use Rattle.std.proofs.Common.{ℕ, List, [], ◌∷◌, ◌++◌}
use Rattle.std.specs.Prelude.{codes}
use Rattle.mr_refusals.specs.Going.{a_number, end_told, fixed_words, if_going, named_told, words_told}
use Rattle.mr_next.proofs.Appended.{behind}
use Rattle.mr_refusals.proofs.going.push_may_stand.Goals as goal

pub returns : goal.returns
returns c =
    let old = c.args.out.now.items in
    let front = c.args.front.now in
    let words = codes "here may stand:" in
    let named = named_told front c.args.line in
    let number = if_going front c.args.line a_number (codes " NUMBER") in
    let fixed = words_told front c.args.line fixed_words in
    let last = end_told front in
    let end : List ℕ = 10 ∷ [] in
    behind old (words ++ named ++ number ++ fixed ++ last) end _ _
    (behind old (words ++ named ++ number ++ fixed) last _ _
    (behind old (words ++ named ++ number) fixed _ _
    (behind old (words ++ named) number _ _
    (behind old words named _ _
    c.in_ok-extend_from_slice.ensures.items
    c.in_ok-push_named.ensures)
    c.in_ok-push_number.ensures)
    c.in_ok-push_fixed.ensures)
    c.in_ok-push_end.ensures)
    c.in_ok-push.ensures.items
