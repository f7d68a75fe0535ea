use Rattle.mr_mem.proofs.Common.{arith, allocation_of, memory_of}
use Rattle.mr_mem.proofs.IndexLaws.{entered, entered_empty, refused}
use Rattle.mr_mem.proofs.memory.enter.Goals as goal

pub returns-then-size-eq0-clause-spans : goal.returns-then-size-eq0-clause-spans
returns-then-size-eq0-clause-spans c =
    entered_empty (memory_of c.args.allocations.now.entries) (memory_of c.enter_by_identity.new.allocations.entries) c.args.spans.now c.args.id (allocation_of c.args.stored) c.requires.absent c.requires.spans
    c.enter_by_identity.result c.if-size-eq0.true c.enter_by_identity.ensures.ok c.enter_by_identity.ensures.err

pub returns-in-Ok-clause-spans : goal.returns-in-Ok-clause-spans
returns-in-Ok-clause-spans c =
    entered (memory_of c.args.allocations.now.entries) (memory_of c.enter_by_identity-2.new.allocations.entries) c.args.spans.now c.args.id (allocation_of c.args.stored) c.requires.absent c.requires.spans
    c.add.new.self (omega arith) c.requires.free c.in_ok-add.ensures.ok c.in-Ok.ensures.ok

pub returns-in-Err-clause-spans : goal.returns-in-Err-clause-spans
returns-in-Err-clause-spans c =
    refused (memory_of c.args.allocations.now.entries) (memory_of c.enter_by_identity-2.new.allocations.entries) c.args.spans.now c.args.id (allocation_of c.args.stored) c.requires.absent c.requires.spans
    c.add.new.self c.remove.new.self (omega arith) c.requires.free c.in_ok-add.ensures.ok c.remove.ensures c.in-Err.ensures.err
