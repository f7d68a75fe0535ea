use Rattle.mr_clocks.proofs.Longer.{tracks_none}
use Rattle.mr_clocks.proofs.analysis.Analysis.new.Goals as goal

pub returns : goal.returns
returns c =
    tracks_none c.new.result.items c.new-2.result.items c.new-3.result c.new-10.result.items c.new-11.result.items c.new-12.result.items c.new-4.result.items c.new-5.result.items
    c.new.ensures.items c.new-2.ensures.items c.new-3.ensures c.new-10.ensures.items c.new-11.ensures.items c.new-12.ensures.items c.new-4.ensures.items c.new-5.ensures.items
