use Rattle.mr_listing.proofs.Common.{◌∙◌, arith, sym, same_places, seen}
use Rattle.std.proofs.Common.{◌-◌}
use Rattle.mr_listing.proofs.AlikeLaws.{any_taken}
use Rattle.mr_listing.proofs.pairs.follows_alike.Goals as goal

pub returns-in-Some : goal.returns-in-Some
returns-in-Some c = λ alike.
    let s = seen c.args.shown.now in
    any_taken (same_places s c.args.pair) s.races c.args.number (c.args.number - 1) c.in-Some.before (sym c.in-Some.ensures)
    (omega arith) (sym c.are_alike.ensures ∙ alike)
