use Rattle.mr_listing.proofs.Common.{◌++◌, ◌∙◌, ap, min, take}
use Rattle.mr_listing.specs.Spots.{behind_front}
use Rattle.mr_listing.proofs.Appended.{last_behind}
use Rattle.mr_listing.proofs.spots.push_cut.Goals as goal

pub returns : goal.returns
returns c =
    let old = c.args.out.now.items in
    let rest = c.args.rest.now in
    last_behind c.push_behind_front.result old (take (min c.args.count 60) rest) (behind_front rest c.args.count) _ _
    (c.in_ok-extend_from_slice.ensures.items ∙ ap (λ n. old ++ take n rest) c.min-width.ensures)
    c.push_behind_front.ensures
