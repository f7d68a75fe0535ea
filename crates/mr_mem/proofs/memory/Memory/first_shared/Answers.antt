use Rattle.mr_mem.proofs.Common.{ap, ◌∙◌, first_overlapped, ranges_of, memory_of}
use Rattle.mr_mem.proofs.IndexLaws.{first_found}
use Rattle.mr_mem.proofs.memory.Memory.first_shared.Goals as goal

pub returns : goal.returns
returns c =
    first_found (memory_of c.self.inside.allocations.entries) c.self.inside.spans c.args.addr c.args.size c.least_overlapped.result c.self.invariant c.least_overlapped.ensures
    ∙ ap (λ m. first_overlapped c.args.addr c.args.size (ranges_of m)) c.self.view_is
