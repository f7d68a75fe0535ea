use Rattle.mr_clocks.proofs.skips.store_all.Goals as goal

pub returns-then-is_empty : goal.returns-then-is_empty
returns-then-is_empty c = λ run n links h g. h

pub returns : goal.returns
returns c = λ run n links h g. c.store_each.ensures run n links (c.fill.ensures run n links h) g
