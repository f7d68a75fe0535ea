use Rattle.mr_listing.proofs.Common.{◌∙◌, [], arith, numbered_group, seen, appended_next}
use Rattle.mr_listing.proofs.pairs.groups_in.Goals as goal

pub loop-number-preserved : goal.loop-number-preserved
loop-number-preserved c =
    c.in_ok-add_first.ensures
    ∙ appended_next (numbered_group (seen c.args.shown.now)) [] c.loop-number.found.items 0
    c.loop-number.number c.loop-number.number (omega arith) c.loop-number.invariant
