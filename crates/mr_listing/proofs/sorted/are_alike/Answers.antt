use Rattle.mr_listing.proofs.Common.{◌∙◌, ap, is_eq, seen}
use Rattle.mr_listing.proofs.AlikeLaws.{eq_places}
use Rattle.mr_listing.proofs.sorted.are_alike.Goals as goal

pub returns : goal.returns
returns c =
    c.is_eq.ensures ∙ ap is_eq c.compare_places.ensures ∙ eq_places (seen c.args.shown.now) c.args.a c.args.b
