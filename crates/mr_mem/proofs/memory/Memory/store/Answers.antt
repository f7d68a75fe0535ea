use Rattle.mr_mem.proofs.Common.{memory_of}
use Rattle.mr_mem.proofs.IndexLaws.{same_ranges_indexed}
use Rattle.mr_mem.proofs.RangeLaws.{ranges-stored}
use Rattle.mr_mem.proofs.memory.Memory.store.Goals as goal

pub invariant_of-self : goal.invariant_of-self
invariant_of-self c =
    let old = memory_of c.self.inside.allocations.entries in
    let new = memory_of c.put.new.allocations.entries in
    same_ranges_indexed c.self.inside.spans old new (ranges-stored old new c.in-Some.id c.args.p.addr c.args.bytes.now c.put.result c.put.ensures.stored c.put.ensures.err) c.self.invariant
