use Rattle.mr_mem.proofs.Common.{◌≡◌, ap, ◌∙◌, true, List, replicate, AbstractByte, Stored, pick_fault, allocation_of, memory_of}
use Rattle.std.proofs.Common.{rules}
use Rattle.mr_base.specs.declared.byte.AbstractByte.TheVariants.{Uninit}
use Rattle.mr_mem.specs.Memory.{held}
use Rattle.std.specs.FinMap as fin
use Rattle.mr_mem.proofs.IndexLaws.{lawful_free}
use Rattle.mr_mem.proofs.memory.Memory.allocate.Goals as goal

pub enter-requires-clause-free : goal.enter-requires-clause-free
enter-requires-clause-free c =
    lawful_free (memory_of c.self.inside.allocations.entries) c.self.inside.spans c.args.addr c.args.size c.args.align c.self.invariant
    (ap (λ m. pick_fault m c.args.addr c.args.size c.args.align) c.self.view_is ∙ c.requires.lawful)

pub returns-clause-ok : goal.returns-clause-ok
returns-clause-ok c =
    let x : Stored = record { addr = c.args.addr; span = c.args.size; align = c.args.align; kind = c.args.kind; live = true; bytes = c.in_ok-bytes.bytes } in
    let bytes : c.in_ok-bytes.bytes ≡ replicate (held c.args.kind c.args.size) Uninit = search rules in
    c.in_ok-enter.ensures.ok
    ∙ ap (λ m. fin.insert m c.args.id (allocation_of x)) c.self.view_is
    ∙ ap (λ (bs : List AbstractByte). fin.insert c.args.self.now c.args.id (record { addr = c.args.addr; span = c.args.size; align = c.args.align; kind = c.args.kind; live = true; bytes = bs })) bytes
