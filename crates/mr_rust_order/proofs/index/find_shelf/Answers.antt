use Rattle.mr_rust_order.proofs.Common.{◌∙◌, no_shelf}
use Rattle.std.proofs.lemmas.List.{get_or_default}
use Rattle.mr_rust_order.proofs.index.find_shelf.Goals as goal

pub returns-then-same_shelf : goal.returns-then-same_shelf
returns-then-same_shelf c = (c.loop-s-test.true, get_or_default c.args.shelves.now c.loop-s.s no_shelf _ c.loop-s-test.true ∙ c.same_shelf.ensures c.if-same_shelf.true)
