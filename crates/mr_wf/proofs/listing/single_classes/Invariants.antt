use Rattle.mr_wf.proofs.Common.{◌≡◌, length}
use Rattle.mr_wf.proofs.ListedLaws.{Own}
use Rattle.mr_wf.proofs.listing.single_classes.Given as goal

abbrev pub invariant-loop-at : goal.invariant-loop-at
invariant-loop-at l = (l.at ≡ length l.classes.items) × Own l.classes.items
