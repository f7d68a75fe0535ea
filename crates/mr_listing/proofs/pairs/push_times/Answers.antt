use Rattle.mr_listing.proofs.Common.{◌+◌, [], ◌∷◌, ◌++◌, decimal}
use Rattle.mr_listing.specs.Races.{often_text}
use Rattle.mr_listing.proofs.Appended.{behind}
use Rattle.mr_listing.proofs.pairs.push_times.Goals as goal

pub returns : goal.returns
returns c =
    let old = c.args.out.now.items in
    let often = often_text c.args.group.count in
    let first = decimal (c.args.group.first.first + 1) in
    let second = decimal (c.args.group.first.second + 1) in
    behind old (often ++ first ++ 32 ∷ [] ++ second) (10 ∷ []) _ _
    (behind old (often ++ first ++ 32 ∷ []) second _ _
    (behind old (often ++ first) (32 ∷ []) _ _
    (behind old often first _ _ c.in_ok-push_often.ensures c.in_ok-push_count.ensures)
    c.in_ok-push.ensures.items)
    c.in_ok-push_count-2.ensures)
    c.in_ok-push-2.ensures.items
