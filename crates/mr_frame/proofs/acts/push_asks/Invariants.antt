use Rattle.mr_frame.proofs.Common.{drop}
use Rattle.mr_frame.proofs.AskLaws.{Asking}
use Rattle.mr_frame.proofs.acts.push_asks.Given as goal

-- these arguments are not asked for still
abbrev pub invariant-loop-x : goal.invariant-loop-x
invariant-loop-x l = Asking l.function (drop l.x-index l.names) l.fn.out.items l.out.items
