use Rattle.mr_rust_order.proofs.TestLaws.{before_is}
use Rattle.mr_picture.proofs.links.is_rusts.Goals as goal

pub returns : goal.returns
returns c =
    before_is c.args.run.now c.args.arrow.first c.args.arrow.second c.in_ok-rusts.rusts c.in_ok-rusts.ensures
