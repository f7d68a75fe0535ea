use Rattle.mr_wf.proofs.Common.{AreListed}
use Rattle.mr_wf.proofs.listing.list_locals.Given as goal

abbrev pub invariant-loop-n : goal.invariant-loop-n
invariant-loop-n l = AreListed l.locals l.list.items
