use Rattle.mr_mem.proofs.IndexLaws.{none_indexed}
use Rattle.mr_mem.proofs.memory.Memory.new.Goals as goal

pub invariant_of-result : goal.invariant_of-result
invariant_of-result c = rw (c.new.ensures.empty, c.new-2.ensures) none_indexed
