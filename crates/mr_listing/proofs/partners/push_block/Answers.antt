use Rattle.mr_listing.proofs.Common.{partner_line}
use Rattle.mr_listing.proofs.Appended.{line_behind}
use Rattle.mr_listing.proofs.partners.push_block.Goals as goal

pub loop-partner-preserved : goal.loop-partner-preserved
loop-partner-preserved c =
    line_behind partner_line c.args.out.now.items c.loop-partner.out.items c.push_partner.new.out.items
    c.args.block.now c.loop-partner.partner-index (record { step = 0; other = 0 }) c.loop-partner-test.true
    c.loop-partner.invariant c.in_ok-push_partner.ensures
