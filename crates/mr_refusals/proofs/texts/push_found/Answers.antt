use Rattle.std.proofs.Common.{◌≡◌, ℕ, List, ◌++◌, subst, take}
use Rattle.std.specs.Prelude.{OnOk}
use Rattle.mr_next.proofs.Appended.{last_behind}
use Rattle.mr_refusals.specs.Texts.{going_told, word_line}
use Rattle.mr_refusals.proofs.texts.push_found.Goals as goal

pub returns : goal.returns
returns c =
    let t = c.args.token in
    last_behind c.push_going.result c.args.out.now.items (word_line c.args.fault.code t.text.now)
    (going_told c.args.fault (take t.at c.args.text.now)) _ _ c.in_ok-push_word.ensures
    (subst (λ (xs : List ℕ). OnOk c.push_going.result
    (c.push_going.new.out.items ≡ c.push_word.new.out.items ++ going_told c.args.fault xs))
    c.front.ensures c.push_going.ensures)
