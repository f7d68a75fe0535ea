use Rattle.mr_wf.proofs.ListedLaws.{lists_one}
use Rattle.mr_wf.proofs.listing.list_type.Goals as goal

pub returns : goal.returns
returns c =
    rw c.in_ok-push.ensures.items (lists_one c.args.locals.now c.args.list.now.items (record { ty = c.args.ty; origin = c.args.origin }) c.requires.listed c.requires.ty)
