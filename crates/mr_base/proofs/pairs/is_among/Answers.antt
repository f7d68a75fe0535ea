use Rattle.std.proofs.Common.{◌∙◌}
use Rattle.mr_base.proofs.Among.{search_tells}
use Rattle.mr_base.proofs.pairs.is_among.Goals as goal

pub returns : goal.returns
returns c =
    c.is_ok.ensures.value
    ∙ search_tells c.args.pairs.now c.args.pair c.binary_search.result c.binary_search.ensures.bound c.binary_search.ensures.position c.requires
