use Rattle.mr_wf.proofs.Common.{AreClasses}
use Rattle.mr_wf.proofs.listing.classes_of.Given as goal

abbrev pub invariant-loop-at : goal.invariant-loop-at
invariant-loop-at l = AreClasses l.list l.classes.items
