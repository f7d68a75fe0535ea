use Rattle.mr_wf.proofs.Common.{length}
use Rattle.mr_wf.proofs.walk.+are_arguments.Given as goal

abbrev pub decreases-are_arguments : goal.decreases-are_arguments
decreases-are_arguments l = length l.args.now
