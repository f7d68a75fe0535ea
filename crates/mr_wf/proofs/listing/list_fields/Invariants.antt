use Rattle.mr_wf.proofs.Common.{IsWhole}
use Rattle.mr_wf.proofs.listing.list_fields.Given as goal

abbrev pub invariant-loop-n : goal.invariant-loop-n
invariant-loop-n l = IsWhole l.locals l.list.items l.whole l.t
