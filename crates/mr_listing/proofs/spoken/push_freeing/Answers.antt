use Rattle.mr_listing.proofs.Common.{◌+◌, codes, decimal}
use Rattle.mr_listing.proofs.Appended.{behind}
use Rattle.mr_listing.proofs.spoken.push_freeing.Goals as goal

pub returns : goal.returns
returns c =
    behind c.args.out.now.items (codes " and was freed by step ") (decimal (c.args.k + 1)) _ _
    c.in_ok-extend_from_slice.ensures.items c.in_ok-push_count.ensures
