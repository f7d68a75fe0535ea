use Rattle.mr_run.proofs.Analysed.{nothing_known}
use Rattle.mr_run.proofs.clocked.Clocked.new.Goals as goal

pub invariant_of-result : goal.invariant_of-result
invariant_of-result c = nothing_known c.new.result.items c.new-2.result c.new-3.result.items c.new.ensures.items c.new-2.ensures c.new-3.ensures.items
