use Rattle.mr_mem.proofs.Common.{memory_of}
use Rattle.mr_mem.proofs.IndexLaws.{ended_indexed}
use Rattle.mr_mem.proofs.memory.Memory.deallocate.Goals as goal

pub invariant_of-self : goal.invariant_of-self
invariant_of-self c =
    ended_indexed c.self.inside.spans (memory_of c.self.inside.allocations.entries) (memory_of c.end_life.new.allocations.entries) c.in-Some.id c.end_life.ensures c.self.invariant
