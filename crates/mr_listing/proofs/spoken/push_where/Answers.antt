use Rattle.mr_listing.proofs.Common.{◌++◌, codes, decimal}
use Rattle.mr_listing.specs.Spoken.{offset_text}
use Rattle.mr_listing.proofs.Appended.{behind, last_behind}
use Rattle.mr_listing.proofs.spoken.push_where.Goals as goal

pub returns : goal.returns
returns c =
    let old = c.args.out.now.items in
    let place = offset_text c.args.start c.args.addr in
    let behind_place = codes ", address " in
    last_behind c.push_number.result old (place ++ behind_place) (decimal c.args.addr) _ _
    (behind old place behind_place _ _ c.in_ok-push_offset.ensures c.in_ok-extend_from_slice.ensures.items)
    c.push_number.ensures
