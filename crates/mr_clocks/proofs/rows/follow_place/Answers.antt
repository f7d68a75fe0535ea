use Rattle.mr_clocks.proofs.rows.follow_place.Goals as goal

pub follow_row-requires-clause-row : goal.follow_row-requires-clause-row
follow_row-requires-clause-row c = c.requires.rows.each c.args.x (c.is_place_known.ensures.inside c.if-is_place_known.false)
