use Rattle.mr_listing.proofs.Common.{codes, decimal}
use Rattle.mr_listing.proofs.Appended.{behind}
use Rattle.mr_listing.proofs.pairs.push_many.Goals as goal

pub returns : goal.returns
returns c =
    behind c.args.out.now.items (decimal c.args.count) (codes " times, first ") _ _ c.in_ok-push_number.ensures
    c.in_ok-extend_from_slice.ensures.items
