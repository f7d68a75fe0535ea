use Rattle.mr_listing.proofs.Common.{◌≡◌, ◌++◌, flat_map, take, partner_line}
use Rattle.mr_listing.proofs.partners.push_block.Given as goal

-- the partners before this one have their lines
abbrev pub invariant-loop-partner : goal.invariant-loop-partner
invariant-loop-partner l = l.out.items ≡ l.fn.out.items ++ flat_map partner_line (take l.partner-index l.block)
