use Rattle.mr_listing.proofs.Common.{◌≡◌, ◌∙◌, ◌++◌, List, subst, OnOk, flat_map, Partner, partner_line}
use Rattle.mr_listing.proofs.partners.push_partners.Goals as goal

pub block_of-requires : goal.block_of-requires
block_of-requires c = c.requires.rising

pub returns : goal.returns
returns c =
    subst (λ (ps : List Partner). OnOk c.push_block.result
    (c.push_block.new.out.items ≡ c.args.out.now.items ++ flat_map partner_line ps))
    (c.block_of.ensures ∙ c.requires.each c.args.number) c.push_block.ensures
