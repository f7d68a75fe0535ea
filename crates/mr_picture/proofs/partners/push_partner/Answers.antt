use Rattle.mr_picture.proofs.Common.{◌+◌, codes, decimal}
use Rattle.mr_listing.proofs.Appended.{last_behind}
use Rattle.mr_picture.specs.Partners.{partner_text}
use Rattle.mr_picture.proofs.partners.push_partner.Goals as goal

pub returns : goal.returns
unfolding partner_text
returns c =
    last_behind c.push_count.result c.args.out.now.items (codes ", ") (decimal (c.args.step + 1)) _ _
    c.in_ok-push.ensures c.push_count.ensures
