use Rattle.mr_clocks.proofs.Common.{◌-◌, arith, get_or_read, no_link}
use Rattle.mr_clocks.proofs.wakers.link_before.Goals as goal

pub returns : goal.returns
returns c = get_or_read c.args.wakers.now.links.items (c.args.at - 1) c.index.result.now (omega (arith, c.requires.some, c.requires.low)) c.index.ensures no_link
