use Rattle.mr_mem.proofs.Common.{memory_of}
use Rattle.mr_runs.specs.Numbers.{with_provenance}
use Rattle.mr_mem.proofs.IndexLaws.{same_ranges_indexed}
use Rattle.mr_mem.proofs.RangeLaws.{ranges-stored}
use Rattle.mr_mem.proofs.memory.Memory.store_numbers.Goals as goal

pub invariant_of-self : goal.invariant_of-self
invariant_of-self c =
    let old = memory_of c.self.inside.allocations.entries in
    let new = memory_of c.put_numbers.new.allocations.entries in
    same_ranges_indexed c.self.inside.spans old new (ranges-stored old new c.in-Some.id c.args.p.addr (with_provenance c.args.provenance c.args.numbers.now) c.put_numbers.result c.put_numbers.ensures.stored c.put_numbers.ensures.err) c.self.invariant
