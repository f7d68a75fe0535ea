use Rattle.mr_clocks.proofs.Common.{◌∙◌, get_or_default, no_shelf}
use Rattle.mr_clocks.proofs.index.find_shelf.Goals as goal

pub returns-then-same_shelf : goal.returns-then-same_shelf
returns-then-same_shelf c = (c.loop-s-test.true, get_or_default c.args.shelves.now c.loop-s.s no_shelf _ c.loop-s-test.true ∙ c.same_shelf.ensures c.if-same_shelf.true)
