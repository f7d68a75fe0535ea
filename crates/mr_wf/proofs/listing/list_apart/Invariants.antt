use Rattle.mr_wf.proofs.Common.{IsWhole}
use Rattle.mr_wf.proofs.listing.list_apart.Given as goal

abbrev pub invariant-loop-variant : goal.invariant-loop-variant
invariant-loop-variant l = IsWhole l.locals l.list.items l.whole l.t
