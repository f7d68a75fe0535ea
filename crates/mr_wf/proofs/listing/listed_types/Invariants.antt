use Rattle.mr_wf.proofs.Common.{AreListed}
use Rattle.mr_wf.proofs.listing.listed_types.Given as goal

abbrev pub invariant-loop-whole : goal.invariant-loop-whole
invariant-loop-whole l = AreListed l.locals l.list.items
