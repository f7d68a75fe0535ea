use Rattle.mr_listing.proofs.Common.{seen}
use Rattle.mr_listing.proofs.AlikeLaws.{count_alike}
use Rattle.mr_listing.proofs.sorted.count_at.Goals as goal

pub returns : goal.returns
returns c = count_alike (seen c.args.shown.now) c.args.pair _ c.alike_races-alike.ensures
