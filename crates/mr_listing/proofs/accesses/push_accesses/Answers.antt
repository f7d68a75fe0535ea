use Rattle.mr_listing.proofs.Common.{◌∙◌, arith, option_copied, appended_next, line_at, seen}
use Rattle.mr_listing.proofs.accesses.push_accesses.Goals as goal

pub loop-at-preserved : goal.loop-at-preserved
loop-at-preserved c =
    c.in_ok-push_access_at.ensures
    ∙ appended_next
    (line_at (seen c.args.shown.now) c.args.here (option_copied c.args.values) c.args.accesses.now)
    c.args.out.now.items c.loop-at.out.items 0 c.loop-at.at c.loop-at.at (omega arith) c.loop-at.invariant
