use Rattle.mr_wf.proofs.Common.{length}
use Rattle.mr_wf.proofs.blocks.+are_bool_cases.Given as goal

abbrev pub decreases-are_bool_cases : goal.decreases-are_bool_cases
decreases-are_bool_cases l = length l.cases.now
