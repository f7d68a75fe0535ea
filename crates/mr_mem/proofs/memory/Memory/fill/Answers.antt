use Rattle.mr_mem.proofs.Common.{replicate, memory_of}
use Rattle.mr_mem.proofs.IndexLaws.{same_ranges_indexed}
use Rattle.mr_mem.proofs.RangeLaws.{ranges-stored}
use Rattle.mr_mem.proofs.memory.Memory.fill.Goals as goal

pub invariant_of-self : goal.invariant_of-self
invariant_of-self c =
    let old = memory_of c.self.inside.allocations.entries in
    let new = memory_of c.put_repeated.new.allocations.entries in
    same_ranges_indexed c.self.inside.spans old new (ranges-stored old new c.in-Some.id c.args.p.addr (replicate c.args.len c.args.byte) c.put_repeated.result c.put_repeated.ensures.stored c.put_repeated.ensures.err) c.self.invariant
